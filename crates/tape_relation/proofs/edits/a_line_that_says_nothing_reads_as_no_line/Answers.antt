-- A law: a line of a tape that says nothing reads as an empty line, and behind other lines as no
-- line (`a_line_that_says_nothing_reads_as_no_line`, src/edits.rt).
use Rattle.tape_relation.proofs.Removed.{emptied, taken_out, last_out}
use Rattle.tape_relation.proofs.edits.a_line_that_says_nothing_reads_as_no_line.Goals as goal

pub returns : goal.returns
returns c = record { emptied = emptied; taken_out = taken_out; last = last_out }
