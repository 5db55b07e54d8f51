-- The edges of what lies inside a contour. An arc whose ends lie at two distances from its centre
-- passes between two circles round it: the outer bound takes of them the one that encloses more, the
-- inner bound the one that encloses less. Squares count 0.0005 mm, in which the number of a diameter is
-- that of its radius. A contour is seen so that passes run along Z: where they run across, its X is the
-- tape's Z, and its Z the tape's X, a diameter.
use Rattle.std.specs.Prelude.{ℕ, ◌+◌, ◌-◌, ◌*◌, min, max, Bool, true, false, not, List, [], ◌∷◌, ℤ, pos, ◌+ℤ◌, ◌*ℤ◌}
use Rattle.std.specs.Int.{int_max}
use Rattle.nc_number.specs.declared.point.Point.{Point}
use Rattle.nc_number.specs.Distances.{distance}
use Rattle.arc_contour.specs.declared.piece.Piece.{Piece}
use Rattle.arc_contour.specs.declared.piece.Piece.TheVariants.{Line, Arc}
use Rattle.arc_contour.specs.declared.edge.Edge.{Edge}
use Rattle.arc_contour.specs.declared.edge.Edge.TheVariants.{Straight, Curved}
use Rattle.arc_contour.specs.declared.edge.Bound.{Bound}
use Rattle.arc_contour.specs.declared.edge.Bound.TheVariants.{Outer, Inner}
use Rattle.arc_contour.specs.declared.way.Way.{Way}
use Rattle.arc_contour.specs.declared.way.Way.TheVariants.{Along, Across}
use Rattle.arc_contour.specs.Contour.{to_of}

-- how far a lies beyond b; 0 if it does not
abbrev pub beyond : ℤ → ℤ → ℕ
beyond a b = distance (int_max a b) b

-- the square of a length across the passes, in 0.0005 mm: X is a diameter, unless passes run across
abbrev pub across_square : Way → ℕ → ℕ
across_square Along length = length * length
across_square Across length = 4 * (length * length)

-- the square of a length along the passes
abbrev pub along_square : Way → ℕ → ℕ
along_square Along length = 4 * (length * length)
along_square Across length = length * length

-- the square of a way of this much across and this much along
abbrev pub square_of : Way → ℕ → ℕ → ℕ
square_of way across along = across_square way across + along_square way along

-- the square of the distance of two points
abbrev pub square_between : Way → Point → Point → ℕ
square_between way a b = square_of way (distance a.x b.x) (distance a.z b.z)

-- the point that lies so far from p
abbrev pub moved_by : Point → ℤ → ℤ → Point
moved_by p x z = record { x = p.x +ℤ x; z = p.z +ℤ z }

-- the centre of an arc, from its start and I and K, which are radius values
abbrev pub centre_of : Way → Point → ℤ → ℤ → Point
centre_of Along p i k = moved_by p (pos 2 *ℤ i) k
centre_of Across p i k = moved_by p i (pos 2 *ℤ k)

-- the square of the radius of an arc that bulges, from p to q round c. The inner bound gives up what an
-- arc that goes past a quadrant takes back
abbrev pub bulge_square : Way → Bound → Point → Point → Point → ℕ
bulge_square way Outer p q c = max (square_between way p c) (square_between way q c)
bulge_square way Inner p q c =
    min (square_between way p c) (square_between way q c) - square_of way (beyond c.x p.x) (beyond c.z q.z)

-- the square of the radius of an arc that is hollow
abbrev pub hollow_square : Way → Bound → Point → Point → Point → ℕ
hollow_square way Outer p q c = min (square_between way p c) (square_between way q c)
hollow_square way Inner p q c = max (square_between way p c) (square_between way q c)

-- the square of the radius of an arc from p to q round c: clockwise it is hollow, else it bulges
abbrev pub arc_square : Way → Bound → Bool → Point → Point → Point → ℕ
arc_square way bound true p q c = hollow_square way bound p q c
arc_square way bound false p q c = bulge_square way bound p q c

-- the edge that a piece from p makes
abbrev pub edge_of : Way → Bound → Point → Piece → Edge
edge_of way bound p (Line to) = Straight to
edge_of way bound p (Arc clockwise to i k) =
    Curved way to (centre_of way p i k) (arc_square way bound clockwise p to (centre_of way p i k)) (not clockwise)

-- the edges of a contour
abbrev pub edges_of : Way → Bound → Point → List Piece → List Edge
edges_of way bound p [] = []
edges_of way bound p (piece ∷ pieces) = edge_of way bound p piece ∷ edges_of way bound (to_of piece) pieces

-- where an edge ends
abbrev pub edge_to : Edge → Point
edge_to (Straight to) = to
edge_to (Curved way to centre square bulges) = to
