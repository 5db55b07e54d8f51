-- The points that moves may pass, counted in parts of 0.001 mm, d parts to a count: a law for every d
-- leaves out no point between the whole counts. Moves are as they are seen over a contour.
use Rattle.std.specs.Prelude.{◌≡◌, ℕ, ◌*◌, ◌≤◌, min, max, false, List, [], ◌∷◌, unwrap_or}
use Rattle.nc_number.specs.declared.point.Point.{Point}
use Rattle.nc_number.specs.Distances.{distance, IsBetween}
use Rattle.arc_contour.specs.declared.edge.Edge.{Edge}
use Rattle.arc_contour.specs.declared.way.Way.{Way}
use Rattle.arc_contour.specs.Edges.{square_between, centre_of}
use Rattle.arc_contour.specs.Inside.{is_inside, in_parts, edges_in_parts}
use Rattle.rough_forms.specs.declared.seen.Leg.{Leg}
use Rattle.rough_forms.specs.declared.seen.Leg.TheVariants.{Rapid, Cut, Round}
use Rattle.rough_forms.specs.declared.seen.SeenMove.{SeenMove}

-- the point lies between two others in X and in Z
pub record IsAmid (from to at : Point) : Type 0 where
  -- in X it lies between them
  pub across : IsBetween from.x at.x to.x
  -- in Z it lies between them
  pub along : IsBetween from.z at.z to.z

-- the point lies on the line from one point to another
pub record IsOn (from to at : Point) : Type 0 where
  -- it lies between them
  pub amid : IsAmid from to at
  -- it lies as far across as along
  pub line : distance at.x from.x * distance to.z from.z ≡ distance to.x from.x * distance at.z from.z

-- the point, in parts, may lie on an arc from one whole point to another round a centre: between its
-- ends in X and in Z, and between the circles round the centre through its ends
pub record IsOnArc (way : Way) (d : ℕ) (from to centre at : Point) : Type 0 where
  -- it lies between the ends
  pub amid : IsAmid (in_parts d from) (in_parts d to) at
  -- it lies no nearer to the centre than the nearer end
  pub near : d * d * min (square_between way from centre) (square_between way to centre) ≤ square_between way at (in_parts d centre)
  -- it lies no farther from the centre than the farther end
  pub far : square_between way at (in_parts d centre) ≤ d * d * max (square_between way from centre) (square_between way to centre)

-- a move may pass the point, which is in parts: a rapid all that lies between its ends, a cut its line,
-- an arc what may lie on it
abbrev pub MayPass : Way → ℕ → Point → Leg → Point → Point → Type 0
MayPass way d from Rapid to at = IsAmid (in_parts d from) (in_parts d to) at
MayPass way d from Cut to at = IsOn (in_parts d from) (in_parts d to) at
MayPass way d from (Round clockwise i k) to at = IsOnArc way d from to (centre_of way from i k) at

-- the point to which a move leads
abbrev pub seen_after : Point → SeenMove → Point
seen_after at it = record { x = unwrap_or it.x at.x; z = unwrap_or it.z at.z }

-- the point to which moves lead, one after another
abbrev pub seen_after_all : Point → List SeenMove → Point
seen_after_all at [] = at
seen_after_all at (it ∷ moves) = seen_after_all (seen_after at it) moves

-- no point that the move may pass lies inside the contour, in d parts to a count
abbrev pub IsClear : Way → ℕ → Point → List Edge → Point → Leg → Point → Type 0
IsClear way d p edges from leg to =
    (at : Point) → MayPass way d from leg to at → is_inside (in_parts d p) (edges_in_parts d edges) at ≡ false

-- no point that one of these moves may pass lies inside the contour
abbrev pub AreClear : Way → ℕ → Point → List Edge → Point → List SeenMove → Type 0
AreClear way d p edges from [] = Unit {0}
AreClear way d p edges from (it ∷ moves) =
    IsClear way d p edges from it.leg (seen_after from it) × AreClear way d p edges (seen_after from it) moves
