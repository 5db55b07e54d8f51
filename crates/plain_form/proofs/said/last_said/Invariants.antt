-- What was said so far and the words that are left give what the last word says (loop of
-- `last_said`, src/said.rt).
use Rattle.std.proofs.Common.{◌≡◌, drop}
use Rattle.plain_form.specs.declared.said.Said.TheVariants.{Nothing}
use Rattle.plain_form.specs.Said.{said_from}
use Rattle.plain_form.proofs.said.last_said.Given as goal

abbrev pub invariant-loop-word : goal.invariant-loop-word
invariant-loop-word l = said_from l.last l.letter (drop l.word-index l.words) ≡ said_from Nothing l.letter l.words
