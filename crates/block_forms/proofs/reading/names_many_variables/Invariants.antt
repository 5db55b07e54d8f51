-- The variables so far fit the room, and those of the words ahead decide. What the loop of
-- `names_many_variables` keeps (src/reading.rt).
use Rattle.std.proofs.Common.{◌≡◌, drop, nat_lt}
use Rattle.block_forms.specs.Forms.{signs_in, has_many_variables}
use Rattle.block_forms.proofs.reading.names_many_variables.Given as goal

abbrev pub invariant-loop-word : goal.invariant-loop-word
invariant-loop-word l = nat_lt l.room (signs_in (drop l.word-index l.words)) ≡ has_many_variables l.words
