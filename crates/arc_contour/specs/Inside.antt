-- What lies inside a contour: the part that may not be cut. A point is inside if each edge that its Z
-- lies in is above it, and there is one.
use Rattle.std.specs.Prelude.{ℕ, ◌*◌, Bool, true, false, not, ◌&&◌, ◌||◌, List, [], ◌∷◌, map, ℤ, pos, ◌-ℤ◌, ◌*ℤ◌, int_lt, int_le, nat_lt, if◌then◌else◌}
use Rattle.std.specs.Ordering.{int_eq}
use Rattle.nc_number.specs.declared.point.Point.{Point}
use Rattle.nc_number.specs.Distances.{distance}
use Rattle.arc_contour.specs.declared.edge.Edge.{Edge}
use Rattle.arc_contour.specs.declared.edge.Edge.TheVariants.{Straight, Curved}
use Rattle.arc_contour.specs.declared.way.Way.{Way}
use Rattle.arc_contour.specs.Edges.{beyond, square_of, edge_to}

-- whether z lies between the Z of two points, both included
unfoldable pub holds : Point → Point → ℤ → Bool
holds p q z = (int_le q.z z && int_le z p.z) || (int_le p.z z && int_le z q.z)

-- whether the point's X is strictly below the line through p and q, in cross products; its Z lies
-- between theirs
abbrev pub is_below_line : Point → Point → Point → Bool
is_below_line p q at = int_lt ((at.x -ℤ p.x) *ℤ pos (distance q.z p.z)) ((q.x -ℤ p.x) *ℤ pos (distance at.z p.z))

-- whether the point is strictly below a line from p to q
unfoldable pub is_below_straight : Point → Point → Point → Bool
is_below_straight p q at =
    if int_eq p.z q.z
    then int_lt at.x p.x && int_lt at.x q.x
    else is_below_line p q at

-- whether the point is strictly within a circle; what lies left of its centre, or before it, counts as
-- level with it
abbrev pub is_within : Way → Point → ℕ → Point → Bool
is_within way c square at = nat_lt (square_of way (beyond at.x c.x) (beyond at.z c.z)) square

-- whether the point is strictly out of a circle, on the side of smaller X and Z
abbrev pub is_out : Way → Point → ℕ → Point → Bool
is_out way c square at = nat_lt square (square_of way (beyond c.x at.x) (beyond c.z at.z))

-- whether the point is strictly below an arc from p to q that rises: lower than its first point, or in
-- its circle if it bulges, or out of it if it is hollow
unfoldable pub is_below_curved : Way → Bool → Point → Point → Point → ℕ → Point → Bool
is_below_curved way true p q c square at = int_lt at.x p.x || is_within way c square at
is_below_curved way false p q c square at = int_lt at.x p.x || (int_lt at.x q.x && is_out way c square at)

-- whether the point is strictly below an edge from p
abbrev pub is_below : Point → Edge → Point → Bool
is_below p (Straight to) at = is_below_straight p to at
is_below p (Curved way to centre square bulges) at = is_below_curved way bulges p to centre square at

-- whether some edge of the contour has the Z within its ends
abbrev pub some_holds : Point → List Edge → ℤ → Bool
some_holds p [] z = false
some_holds p (edge ∷ edges) z = holds p (edge_to edge) z || some_holds (edge_to edge) edges z

-- whether the point is below each edge that its Z lies in
abbrev pub is_below_each : Point → List Edge → Point → Bool
is_below_each p [] at = true
is_below_each p (edge ∷ edges) at =
    (not (holds p (edge_to edge) at.z) || is_below p edge at) && is_below_each (edge_to edge) edges at

-- whether the point is inside the contour of this first point and these edges
abbrev pub is_inside : Point → List Edge → Point → Bool
is_inside p edges at = some_holds p edges at.z && is_below_each p edges at

-- a point of whole counts, in parts, d to a count
abbrev pub in_parts : ℕ → Point → Point
in_parts d p = record { x = pos d *ℤ p.x; z = pos d *ℤ p.z }

-- an edge in parts
abbrev pub edge_in_parts : ℕ → Edge → Edge
edge_in_parts d (Straight to) = Straight (in_parts d to)
edge_in_parts d (Curved way to centre square bulges) = Curved way (in_parts d to) (in_parts d centre) (d * d * square) bulges

-- edges in parts
abbrev pub edges_in_parts : ℕ → List Edge → List Edge
edges_in_parts d edges = map (edge_in_parts d) edges
