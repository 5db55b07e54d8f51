-- Arcs that a control takes: that end on their circle, and within their quadrant.
use Rattle.std.specs.Prelude.{ℕ, ◌+◌, ◌-◌, ◌*◌, min, max, Bool, true, false, not, ◌&&◌, ◌||◌, ℤ, pos, ◌+ℤ◌, ◌-ℤ◌, int_le, nat_le, nat_lt}
use Rattle.nc_number.specs.declared.point.Point.{Point}
use Rattle.arc_contour.specs.declared.piece.Piece.{Piece}
use Rattle.arc_contour.specs.declared.piece.Piece.TheVariants.{Line, Arc}
use Rattle.arc_contour.specs.declared.edge.Bound.TheVariants.{Outer}
use Rattle.arc_contour.specs.declared.way.Way.{Way}
use Rattle.arc_contour.specs.declared.way.Way.TheVariants.{Along, Across}
use Rattle.arc_contour.specs.Edges.{beyond, across_square, along_square, square_between, centre_of, arc_square}

-- how far an arc's end may lie from its circle, in 0.0005 mm
abbrev pub tolerance : ℕ
tolerance = 20

-- places at these squared distances from a centre, the larger first, lie on no circle round it within
-- the tolerance: the root of `far` is more than the root of `near` and the tolerance
abbrev pub is_past_tolerance : ℕ → ℕ → Bool
is_past_tolerance far near =
    let excess = far - (near + tolerance * tolerance) in
    nat_lt (near + tolerance * tolerance) far && nat_lt (4 * tolerance * tolerance * near) (excess * excess)

-- the ends of an arc lie equally far from its centre, within the tolerance
abbrev pub ends_met : Way → Point → Point → Point → Bool
ends_met way p q c =
    not (is_past_tolerance (max (square_between way p c) (square_between way q c)) (min (square_between way p c) (square_between way q c)))

-- what 0.001 mm is in the lengths across the passes
abbrev pub across_step : Way → ℤ
across_step Along = pos 2
across_step Across = pos 1

-- what 0.001 mm is in the lengths along the passes
abbrev pub along_step : Way → ℤ
along_step Along = pos 1
along_step Across = pos 2

-- a circle of this square reaches from b to no more than a, in its lengths across the passes
abbrev pub fits_across : Way → ℤ → ℤ → ℕ → Bool
fits_across way a b square = nat_le square (across_square way (beyond a b))

-- the same in its lengths along the passes
abbrev pub fits_along : Way → ℤ → ℤ → ℕ → Bool
fits_along way a b square = nat_le square (along_square way (beyond a b))

-- an arc that bulges goes past its first point along the passes by no more than 0.001 mm
abbrev pub bulge_begins : Way → Point → Point → Point → ℕ → Bool
bulge_begins way p q c square = int_le c.x p.x || fits_along way (p.z +ℤ along_step way) c.z square

-- it goes past its last point across them by no more
abbrev pub bulge_ends : Way → Point → Point → Point → ℕ → Bool
bulge_ends way p q c square = int_le c.z q.z || fits_across way (q.x +ℤ across_step way) c.x square

-- a hollow arc goes past its first point across the passes by no more than 0.001 mm
abbrev pub hollow_begins : Way → Point → Point → Point → ℕ → Bool
hollow_begins way p q c square = int_le p.z c.z || fits_across way c.x (p.x -ℤ across_step way) square

-- it goes past its last point along them by no more
abbrev pub hollow_ends : Way → Point → Point → Point → ℕ → Bool
hollow_ends way p q c square = int_le q.x c.x || fits_along way c.z (q.z -ℤ along_step way) square

-- an arc goes past its quadrant by no more than 0.001 mm, by the circle of its outer bound
abbrev pub is_quadrant : Way → Bool → Point → Point → Point → Bool
is_quadrant way true p q c =
    let square = arc_square way Outer true p q c in hollow_begins way p q c square && hollow_ends way p q c square
is_quadrant way false p q c =
    let square = arc_square way Outer false p q c in bulge_begins way p q c square && bulge_ends way p q c square

-- a piece from p is a line, or an arc that ends on its circle and within its quadrant
abbrev pub is_taken : Way → Point → Piece → Bool
is_taken way p (Line to) = true
is_taken way p (Arc clockwise to i k) = ends_met way p to (centre_of way p i k) && is_quadrant way clockwise p to (centre_of way p i k)
