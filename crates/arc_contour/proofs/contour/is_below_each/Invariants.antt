-- The point is below each edge so far, and those that are left decide (loop of `is_below_each`,
-- src/contour.rt).
use Rattle.std.proofs.Common.{◌≡◌, drop}
use Rattle.arc_contour.specs.Inside.{is_below_each}
use Rattle.arc_contour.specs.Bounds.{IsNear}
use Rattle.arc_contour.proofs.contour.is_below_each.Given as goal

abbrev pub invariant-loop-edge : goal.invariant-loop-edge
invariant-loop-edge l = record {
  rest : is_below_each l.from (drop l.edge-index l.edges) l.at ≡ is_below_each l.first l.edges l.at;
  near : IsNear l.from;
}
