-- A law: a text has the tape, or the fault, that the relation says, and no other
-- (`the_reader_reads_the_relation`, src/law.rt).
use Rattle.tape_relation.proofs.LinesOf.{are_lines, lines_are}
use Rattle.tape_relation.proofs.Agrees.{is_tape, tape_is, is_fault, fault_is}
use Rattle.tape_relation.proofs.law.the_reader_reads_the_relation.Goals as goal

pub returns-clause-lines : goal.returns-clause-lines
returns-clause-lines c = λ text lines. (are_lines text lines, lines_are text lines)

pub returns-clause-tape : goal.returns-clause-tape
returns-clause-tape c = λ skips text tape. (is_tape skips text tape, tape_is skips text tape)

pub returns-clause-fault : goal.returns-clause-fault
returns-clause-fault c = λ skips text fault. (is_fault skips text fault, fault_is skips text fault)
