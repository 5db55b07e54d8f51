-- A law: an empty line behind others of a tape only raises the numbers of the lines behind it
-- (`an_empty_line_only_moves_lines`, src/edits.rt).
use Rattle.tape_relation.proofs.Removed.{empty_taken_out}
use Rattle.tape_relation.proofs.edits.an_empty_line_only_moves_lines.Goals as goal

pub returns : goal.returns
returns c = empty_taken_out
