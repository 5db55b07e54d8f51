-- That the end of a pass is the least whole Z: at the whole Z before it an edge is above the pass. For
-- the law `an_end_is_the_least` (src/law.rt).
use Rattle.std.specs.Prelude.{◌≤◌, Bool, true, false, ◌&&◌, ◌||◌, List, [], ◌∷◌, ◌<ℤ◌, ◌≤ℤ◌}
use Rattle.nc_number.specs.declared.point.Point.{Point}
use Rattle.arc_contour.specs.declared.piece.Piece.{Piece}
use Rattle.arc_contour.specs.declared.piece.Piece.TheVariants.{Line, Arc}
use Rattle.arc_contour.specs.declared.edge.Edge.{Edge}
use Rattle.arc_contour.specs.declared.way.Way.{Way}
use Rattle.arc_contour.specs.Edges.{edge_to, centre_of, square_between}
use Rattle.arc_contour.specs.Inside.{holds, is_below}

-- whether the point is below some edge that its Z lies in
abbrev pub is_below_some : Point → List Edge → Point → Bool
is_below_some p [] at = false
is_below_some p (edge ∷ edges) at = (holds p (edge_to edge) at.z && is_below p edge at) || is_below_some (edge_to edge) edges at

-- each arc that bulges ends at a lesser Z than it begins
abbrev pub LeadsOn : Point → List Piece → Type 0
LeadsOn p [] = Unit {0}
LeadsOn p (Line to ∷ pieces) = LeadsOn to pieces
LeadsOn p (Arc true to i k ∷ pieces) = LeadsOn to pieces
LeadsOn p (Arc false to i k ∷ pieces) = (to.z <ℤ p.z) × LeadsOn to pieces

-- each arc that bulges ends no nearer to its centre than it begins, right of it and past it
abbrev pub EndsMet : Way → Point → List Piece → Type 0
EndsMet way p [] = Unit {0}
EndsMet way p (Line to ∷ pieces) = EndsMet way to pieces
EndsMet way p (Arc true to i k ∷ pieces) = EndsMet way to pieces
EndsMet way p (Arc false to i k ∷ pieces) =
    (square_between way p (centre_of way p i k) ≤ square_between way to (centre_of way p i k))
    × ((centre_of way p i k).x ≤ℤ to.x) × ((centre_of way p i k).z ≤ℤ to.z) × EndsMet way to pieces
