-- A law: a carriage return before a line feed of a tape changes nothing: lines may end with both,
-- or with the line feed alone (`a_carriage_return_changes_nothing`, src/edits.rt).
use Rattle.tape_relation.proofs.Returns.{return_put, returns_ignored}
use Rattle.tape_relation.proofs.edits.a_carriage_return_changes_nothing.Goals as goal

pub returns : goal.returns
returns c = record { one_line = return_put; each_line = returns_ignored }
