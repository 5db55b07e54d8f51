-- A law: in a tape lower case reads as upper case (`lower_case_reads_as_upper_case`, src/edits.rt).
use Rattle.tape_relation.proofs.UpperCase.{tape_up}
use Rattle.tape_relation.proofs.edits.lower_case_reads_as_upper_case.Goals as goal

pub returns : goal.returns
returns c = tape_up
