-- The lines so far, and what the definition gives for the blocks that are left (loop of `lines_of`,
-- src/contour.rt).
use Rattle.std.proofs.Common.{◌≡◌, [], drop, All}
use Rattle.arc_contour.specs.Bounds.{IsWritten}
use Rattle.contour_words.specs.Contours.{lines_behind, IsNearLine}
use Rattle.contour_words.proofs.contour.lines_of.Given as goal

abbrev pub invariant-loop-block : goal.invariant-loop-block
invariant-loop-block l = record {
  rest : lines_behind l.lines.items l.call l.motion l.at (drop l.block-index l.blocks) ≡ lines_behind [] l.call l.fn.before l.fn.from l.blocks;
  at : IsWritten l.at;
  near : All IsNearLine l.lines.items;
}
