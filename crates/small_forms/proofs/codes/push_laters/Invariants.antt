-- The blocks so far, and those of the rest, are those of all (loop of `push_laters`, src/codes.rt).
use Rattle.std.proofs.Common.{◌≡◌, ◌++◌, false, drop}
use Rattle.small_forms.specs.Codes.{later_from}
use Rattle.small_forms.proofs.codes.push_laters.Given as goal

abbrev pub invariant-loop-word : goal.invariant-loop-word
invariant-loop-word l = l.blocks.items ++ later_from l.seen (drop l.word-index l.words) ≡ l.fn.blocks.items ++ later_from false l.words
