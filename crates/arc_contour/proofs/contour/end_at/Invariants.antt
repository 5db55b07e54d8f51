-- The edges that are left decide the end; the contour is at or below the pass so far (loop of
-- `end_at`, src/contour.rt).
use Rattle.std.proofs.Common.{◌≡◌, ◌≤ℤ◌, drop}
use Rattle.arc_contour.specs.Bounds.{IsNear}
use Rattle.arc_contour.specs.Ends.{end_at}
use Rattle.arc_contour.proofs.contour.end_at.Given as goal

abbrev pub invariant-loop-edge : goal.invariant-loop-edge
invariant-loop-edge l = record {
  rest : end_at l.x l.from (drop l.edge-index l.edges) ≡ end_at l.x l.fn.first l.edges;
  left : l.from.x ≤ℤ l.x;
  near : IsNear l.from;
}
