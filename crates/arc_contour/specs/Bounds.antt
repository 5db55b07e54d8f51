-- The bounds within which the code computes, so that no product is too large.
use Rattle.std.specs.Prelude.{ℕ, ◌≤◌, unsigned_abs}
use Rattle.nc_number.specs.declared.limits.TheConstants.{LONGEST_SAID}
use Rattle.nc_number.specs.declared.point.Point.{Point}
use Rattle.arc_contour.specs.declared.piece.Piece.{Piece}
use Rattle.arc_contour.specs.declared.piece.Piece.TheVariants.{Line, Arc}
use Rattle.arc_contour.specs.declared.edge.Edge.{Edge}
use Rattle.arc_contour.specs.declared.edge.Edge.TheVariants.{Straight, Curved}

-- both lengths of a point are at most so far from 0
abbrev pub IsAtMost : ℕ → Point → Type 0
IsAtMost far p = (unsigned_abs p.x ≤ far) × (unsigned_abs p.z ≤ far)

-- both lengths of a point are such that a literal can write them: at most 100 km
abbrev pub IsWritten : Point → Type 0
IsWritten p = IsAtMost LONGEST_SAID p

-- both lengths of a point are at most twice what a literal can write: with its allowance
abbrev pub IsPlaced : Point → Type 0
IsPlaced p = IsAtMost 200000000000 p

-- both lengths of a point are within 1,000 km, so that no product is too large
abbrev pub IsNear : Point → Type 0
IsNear p = IsAtMost 1000000000000 p

-- a piece that ends at most so far from 0, and whose I and K a literal can write
unfoldable pub IsPieceWithin : ℕ → Piece → Type 0
IsPieceWithin far (Line to) = IsAtMost far to
IsPieceWithin far (Arc clockwise to i k) = IsAtMost far to × (unsigned_abs i ≤ LONGEST_SAID) × (unsigned_abs k ≤ LONGEST_SAID)

-- the square of a radius is at most that of twice the longest way
abbrev pub far_square : ℕ
far_square = 20000000000000000000000000

-- an edge of points that are near
unfoldable pub IsNearEdge : Edge → Type 0
IsNearEdge (Straight to) = IsNear to
IsNearEdge (Curved way to centre square bulges) = IsNear to × IsNear centre × (square ≤ far_square)
