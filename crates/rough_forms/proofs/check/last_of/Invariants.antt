-- The last point from here on is the last of all (loop of `last_of`, src/check.rt).
use Rattle.std.proofs.Common.{◌≡◌, drop}
use Rattle.arc_contour.specs.Bounds.{IsPlaced}
use Rattle.arc_contour.specs.Contour.{last_of}
use Rattle.rough_forms.proofs.check.last_of.Given as goal

abbrev pub invariant-loop-piece : goal.invariant-loop-piece
invariant-loop-piece l = record {
  rest : last_of l.last (drop l.piece-index l.pieces) ≡ last_of l.first l.pieces;
  near : IsPlaced l.last;
}
