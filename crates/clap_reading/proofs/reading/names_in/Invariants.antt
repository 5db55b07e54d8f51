-- The names so far and those of the words ahead are the names of all words (loop of `names_in`,
-- src/reading.rt).
use Rattle.std.proofs.Common.{◌≡◌, drop, map, option_map, ◌++◌}
use Rattle.clap.specs.Words.{found_of, rows_of}
use Rattle.clap_reading.specs.ClapReading.{names_in}
use Rattle.clap_reading.proofs.reading.names_in.Given as goal

abbrev pub invariant-loop-id : goal.invariant-loop-id
invariant-loop-id l =
    option_map (λ rest. map (λ s. s.now) l.names.items ++ rest) (names_in (rows_of (found_of l.given)) (map (λ s. s.now) (drop l.id-index l.ids)))
    ≡ names_in (rows_of (found_of l.given)) (map (λ s. s.now) l.ids)
