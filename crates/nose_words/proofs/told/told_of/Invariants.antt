-- What is told so far, and what the noses that are left tell, is what all tell (loop of `told_of`,
-- src/told.rt).
use Rattle.std.proofs.Common.{◌≡◌, drop}
use Rattle.nose_words.specs.Told.{told_from, told_of}
use Rattle.nose_words.proofs.told.told_of.Given as goal

abbrev pub invariant-loop-nose : goal.invariant-loop-nose
invariant-loop-nose l = told_from l.told l.offset (drop l.nose-index l.noses) ≡ told_of l.offset l.noses
