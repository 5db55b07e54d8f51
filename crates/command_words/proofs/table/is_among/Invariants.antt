-- The name that is looked for is among the options ahead exactly if it is among all of them (loop
-- of `is_among`, src/table.rt).
use Rattle.std.proofs.Common.{◌≡◌, drop, map}
use Rattle.std.specs.List.{list_any}
use Rattle.std.specs.Str.{bytes_eq}
use Rattle.command_words.proofs.table.is_among.Given as goal

abbrev pub invariant-loop-own : goal.invariant-loop-own
invariant-loop-own l =
    list_any (λ own. bytes_eq own l.id) (map (λ s. s.now) l.texts) ≡ list_any (λ own. bytes_eq own l.id) (map (λ s. s.now) (drop l.own-index l.texts))
