-- What the definition gives for the letters that are left is the answer (loop of `no_count_in`,
-- src/causes.rt).
use Rattle.std.proofs.Common.{◌≡◌, drop}
use Rattle.cycle_words.specs.Causes.{no_count_in}
use Rattle.cycle_words.proofs.causes.no_count_in.Given as goal

abbrev pub invariant-loop-letter : goal.invariant-loop-letter
invariant-loop-letter l = no_count_in (drop l.letter-index l.letters) l.words ≡ no_count_in l.letters l.words
