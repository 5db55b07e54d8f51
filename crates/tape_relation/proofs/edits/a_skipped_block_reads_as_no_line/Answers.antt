-- A law: a readable block whose switch is set reads as an empty line, and behind other lines as no
-- line (`a_skipped_block_reads_as_no_line`, src/edits.rt).
use Rattle.std.proofs.Common.{true, false}
use Rattle.tape_relation.proofs.Removed.{emptied, taken_out, last_out, skipped_says}
use Rattle.tape_relation.proofs.edits.a_skipped_block_reads_as_no_line.Goals as goal

pub returns : goal.returns
returns c = record {
  emptied = λ skips front line back is h. emptied skips front line back is (skipped_says skips line true h);
  taken_out = λ skips front line back is some h. taken_out skips front line back is some (skipped_says skips line true h);
  last = λ skips front line is some h. last_out skips front line is some (skipped_says skips line false h);
}
