-- Where a pass over a contour ends: its Z rounded up to a whole number, so that it never lies inside.
use Rattle.std.specs.Prelude.{ℕ, ◌+◌, ◌-◌, ◌*◌, ◌/◌, Bool, true, false, not, ◌&&◌, List, [], ◌∷◌, ℤ, pos, ◌+ℤ◌, ◌-ℤ◌, int_le, nat_lt, if◌then◌else◌}
use Rattle.std.specs.Int.{int_min, int_max}
use Rattle.nc_number.specs.declared.point.Point.{Point}
use Rattle.nc_number.specs.Distances.{distance}
use Rattle.nc_number.specs.Arithmetic.{square_root}
use Rattle.arc_contour.specs.declared.edge.Edge.{Edge}
use Rattle.arc_contour.specs.declared.edge.Edge.TheVariants.{Straight, Curved}
use Rattle.arc_contour.specs.declared.way.Way.{Way}
use Rattle.arc_contour.specs.declared.way.Way.TheVariants.{Along, Across}
use Rattle.arc_contour.specs.Edges.{beyond, across_square, edge_to}
use Rattle.arc_contour.specs.Inside.{is_below_curved}

-- z, or the nearest Z between those of two points: q's, the lesser, and p's
abbrev pub within : Point → Point → ℤ → ℤ
within p q z = int_max q.z (int_min p.z z)

-- where a line comes to x, its Z rounded up
abbrev pub line_end : ℤ → Point → Point → ℤ
line_end x p q = p.z -ℤ pos (distance p.z q.z * distance x p.x / distance q.x p.x)

-- the greatest whole length along whose square is at most this one
abbrev pub along_root : Way → ℕ → ℕ
along_root Along square = square_root (square / 4)
along_root Across square = square_root square

-- the least whole way along at which a point this far across is not within a circle of this square, if
-- it is within at none
abbrev pub least_along : Way → ℕ → ℕ → ℕ
least_along way square across = along_root way (square - across_square way across - 1) + 1

-- the greatest whole way along at which a point this far across is within a circle of this square, if
-- it is within at none
abbrev pub most_along : Way → ℕ → ℕ → ℕ
most_along way square across = along_root way (square - across_square way across)

-- where an arc comes to x, its Z rounded up
abbrev pub arc_end : Way → Bool → ℤ → Point → Point → Point → ℕ → ℤ
arc_end way true x p q c square = within p q (c.z +ℤ pos (least_along way square (beyond x c.x)))
arc_end way false x p q c square =
    if nat_lt square (across_square way (beyond c.x x))
    then p.z
    else within p q (c.z -ℤ pos (most_along way square (beyond c.x x)))

-- where an edge from p comes to x, its Z rounded up
abbrev pub edge_end : ℤ → Point → Edge → ℤ
edge_end x p (Straight to) = line_end x p to
edge_end x p (Curved way to centre square bulges) = arc_end way bulges x p to centre square

-- whether a pass at x passes over the whole edge: over its end, and there over the circle of an arc
abbrev pub is_passed : ℤ → Point → Edge → Bool
is_passed x p (Straight to) = int_le to.x x
is_passed x p (Curved way to centre square bulges) =
    int_le to.x x && not (is_below_curved way bulges p to centre square (record { x = x; z = to.z }))

-- the end of a pass at x, rounded up to a whole number: where it comes to the first edge that it does
-- not pass over
abbrev pub end_at : ℤ → Point → List Edge → ℤ
end_at x p [] = p.z
end_at x p (edge ∷ edges) = if is_passed x p edge then end_at x (edge_to edge) edges else edge_end x p edge
