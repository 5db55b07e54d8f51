-- The words that are left give what all do (loop of `unexpected`, src/said.rt).
use Rattle.std.proofs.Common.{◌≡◌, drop}
use Rattle.plain_form.specs.Said.{unexpected}
use Rattle.plain_form.proofs.said.unexpected.Given as goal

abbrev pub invariant-loop-word : goal.invariant-loop-word
invariant-loop-word l = unexpected l.letters (drop l.word-index l.words) ≡ unexpected l.letters l.words
