-- The names so far and those of the further words ahead are all names (loop of `with_further`,
-- src/reading.rt).
use Rattle.std.proofs.Common.{◌≡◌, drop, map, ◌++◌}
use Rattle.clap.specs.Words.{found_of, rows_of}
use Rattle.clap_reading.specs.ClapReading.{further_in}
use Rattle.clap_reading.proofs.reading.with_further.Given as goal

abbrev pub invariant-loop-id : goal.invariant-loop-id
invariant-loop-id l =
    map (λ s. s.now) l.all.items ++ further_in (rows_of (found_of l.given)) (map (λ s. s.now) (drop l.id-index l.ids))
    ≡ map (λ s. s.now) l.fn.names.items ++ further_in (rows_of (found_of l.given)) (map (λ s. s.now) l.ids)
