-- The statements of a tape that was read have no blanks, no comments and no lower case. For the law
-- `the_statements_of_a_tape_are_clean` (src/laws.rt).
use Rattle.open_forms.proofs.CleanStatements.{tape_clean}
use Rattle.open_forms.proofs.laws.the_statements_of_a_tape_are_clean.Goals as goal

pub returns : goal.returns
returns c = tape_clean
