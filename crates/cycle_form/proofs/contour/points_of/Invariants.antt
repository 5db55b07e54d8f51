-- The points so far and those of the blocks ahead are those of the contour, and literals can write
-- them (loop of `points_of`, src/contour.rt).
use Rattle.std.proofs.Common.{◌≡◌, [], drop, All}
use Rattle.rough_cycle.specs.Form.{IsWritten}
use Rattle.cycle_form.specs.Contour.{points_behind}
use Rattle.cycle_form.proofs.contour.points_of.Given as goal

abbrev pub invariant-loop-block : goal.invariant-loop-block
invariant-loop-block l = record {
  rest : points_behind l.points.items l.at l.last (drop l.block-index l.blocks) ≡ points_behind [] l.from l.last l.blocks;
  near : All IsWritten l.points.items;
  here : IsWritten l.at;
}
