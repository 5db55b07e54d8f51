-- The words so far, and what the rest leaves, are what all leave (loop of `first_block`, src/codes.rt).
use Rattle.std.proofs.Common.{◌≡◌, ◌++◌, false, drop}
use Rattle.small_forms.specs.Codes.{first_from}
use Rattle.small_forms.proofs.codes.first_block.Given as goal

abbrev pub invariant-loop-word : goal.invariant-loop-word
invariant-loop-word l = l.first.items ++ first_from l.seen (drop l.word-index l.words) ≡ first_from false l.words
