-- What the definition gives for the letters that are left is the answer (loop of `calculated_in`,
-- src/causes.rt).
use Rattle.std.proofs.Common.{◌≡◌, drop}
use Rattle.cycle_words.specs.Causes.{calculated_in}
use Rattle.cycle_words.proofs.causes.calculated_in.Given as goal

abbrev pub invariant-loop-letter : goal.invariant-loop-letter
invariant-loop-letter l = calculated_in (drop l.letter-index l.letters) l.words ≡ calculated_in l.letters l.words
