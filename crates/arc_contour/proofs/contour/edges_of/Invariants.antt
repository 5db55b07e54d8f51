-- The edges so far and those of the pieces that are left are all (loop of `edges_of`, src/contour.rt).
use Rattle.std.proofs.Common.{◌≡◌, ◌++◌, drop, All}
use Rattle.arc_contour.specs.Edges.{edges_of}
use Rattle.arc_contour.specs.Bounds.{IsPlaced, IsNearEdge}
use Rattle.arc_contour.proofs.contour.edges_of.Given as goal

abbrev pub invariant-loop-piece : goal.invariant-loop-piece
invariant-loop-piece l = record {
  edges : l.edges.items ++ edges_of l.way l.bound l.from (drop l.piece-index l.pieces) ≡ edges_of l.way l.bound l.fn.first l.pieces;
  from : IsPlaced l.from;
  near : All IsNearEdge l.edges.items;
}
