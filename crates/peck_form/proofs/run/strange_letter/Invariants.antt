-- What the definition gives for the words that are left is the answer (loop of `strange_letter`,
-- src/run.rt).
use Rattle.std.proofs.Common.{◌≡◌, drop}
use Rattle.peck_form.specs.Run.{strange_letter}
use Rattle.peck_form.proofs.run.strange_letter.Given as goal

abbrev pub invariant-loop-word : goal.invariant-loop-word
invariant-loop-word l = strange_letter l.letters l.settings (drop l.word-index l.words) ≡ strange_letter l.letters l.settings l.words
