-- A law: a line of a tape with nothing but closed comments and ignored bytes is no block
-- (`a_line_of_comments_is_no_block`, src/edits.rt).
use Rattle.std.proofs.Common.{true, false}
use Rattle.tape_relation.proofs.Removed.{emptied, taken_out, last_out, comments_say}
use Rattle.tape_relation.proofs.edits.a_line_of_comments_is_no_block.Goals as goal

pub returns : goal.returns
returns c = record {
  emptied = λ skips front line back is h. emptied skips front line back is (comments_say skips line true h);
  taken_out = λ skips front line back is some h. taken_out skips front line back is some (comments_say skips line true h);
  last = λ skips front line is some h. last_out skips front line is some (comments_say skips line false h);
}
