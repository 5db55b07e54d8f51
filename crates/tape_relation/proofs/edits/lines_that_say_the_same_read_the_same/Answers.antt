-- A law: a tape is read line by line: texts whose lines say the same have the same answer
-- (`lines_that_say_the_same_read_the_same`, src/edits.rt).
use Rattle.tape_relation.proofs.OneLine.{lines_alike}
use Rattle.tape_relation.proofs.edits.lines_that_say_the_same_read_the_same.Goals as goal

pub returns : goal.returns
returns c = lines_alike
