-- The points that a move may pass. They are counted in parts of a count of 0.001 mm, d parts to a
-- count: a law for every d leaves out no point between the whole counts.
use Rattle.std.specs.Prelude.{◌≡◌, ℕ, ◌*◌, ◌≤◌, max, List, [], ◌∷◌, ◌⊎◌, Option, Some, None, unwrap_or, ℤ, pos, ◌+ℤ◌, ◌*ℤ◌, ◌≤ℤ◌, ◌<ℤ◌, unsigned_abs}
use Rattle.nc_number.specs.declared.point.Point.{Point}
use Rattle.nc_number.specs.Distances.{distance, IsBetween}
use Rattle.nc_number.specs.Signs.{signed_number}
use Rattle.nc_moves.specs.declared.motion.Centre.{Centre}
use Rattle.nc_moves.specs.declared.motion.Centre.TheVariants.{Offset, Radius}
use Rattle.nc_moves.specs.declared.motion.Move.{Move}
use Rattle.nc_moves.specs.Motion.{end_of}
use Rattle.motion_track.specs.Circle.{place_of, centre_from, square_between}
use Rattle.motion_track.specs.Within.{centre_in}
use Rattle.zone_area.specs.declared.area.Area.{Area}
use Rattle.zone_area.specs.declared.frame.Frame.{Frame}

-- a point of whole counts, in parts
abbrev pub in_parts : ℕ → Point → Point
in_parts d p = record { x = pos d *ℤ p.x; z = pos d *ℤ p.z }

-- the middle of the circle that an arc may reach: its centre, or for an arc by its radius its start
abbrev pub middle_of : Point → Centre → Point
middle_of at (Offset i k) = record { x = at.x +ℤ pos 2 *ℤ i; z = at.z +ℤ k }
middle_of at (Radius r) = at

-- the square of how far an arc may reach from its middle, in 0.0005 mm: to the farther of its ends,
-- as the test of an arc's end measures it; of an arc by its radius, twice the radius
abbrev pub square_of : Point → Point → Centre → ℕ
square_of at to (Offset i k) =
    max (square_between (centre_from (place_of at) i k) (place_of at)) (square_between (centre_from (place_of at) i k) (place_of to))
square_of at to (Radius r) = (4 * unsigned_abs r) * (4 * unsigned_abs r)

-- the place after a move: its end, or the place before it if it goes nowhere
abbrev pub place_after : Point → Move → Point
place_after at move = unwrap_or (end_of move) at

-- A point, which is in parts, may be passed by a move from a place to this end. A move that goes
-- nowhere passes the place alone; one without a centre all between its ends in X and in Z; an arc
-- its ends, and all that lies no farther from its middle than it may reach.
abbrev pub MayPassTo : ℕ → Point → Option Point → Option Centre → Point → Type 0
MayPassTo d at None centre q = q ≡ in_parts d at
MayPassTo d at (Some to) None q =
    IsBetween (in_parts d at).x q.x (in_parts d to).x × IsBetween (in_parts d at).z q.z (in_parts d to).z
MayPassTo d at (Some to) (Some centre) q =
    (q ≡ in_parts d at) ⊎ (q ≡ in_parts d to)
    ⊎ (square_between (place_of (in_parts d (middle_of at centre))) (place_of q) ≤ d * d * square_of at to centre)

-- a move from a place may pass the point
abbrev pub MayPass : ℕ → Point → Move → Point → Type 0
MayPass d at move q = MayPassTo d at (end_of move) (centre_in move) q

-- one of these moves, made one after another from a place, may pass the point, or it is the place
-- after them
abbrev pub MayPassSome : ℕ → Point → List Move → Point → Type 0
MayPassSome d at [] q = q ≡ in_parts d at
MayPassSome d at (move ∷ moves) q = MayPass d at move q ⊎ MayPassSome d (place_after at move) moves q

-- a point in parts lies in an area of whole counts: its X and its Z lie between those of the
-- corners, or are theirs
pub record IsInside (d : ℕ) (area : Area) (q : Point) : Type 0 where
  -- the point has at least the least X
  pub left : (in_parts d area.low).x ≤ℤ q.x
  -- the point has at most the greatest X
  pub right : q.x ≤ℤ (in_parts d area.high).x
  -- the point has at least the least Z
  pub below : (in_parts d area.low).z ≤ℤ q.z
  -- the point has at most the greatest Z
  pub above : q.z ≤ℤ (in_parts d area.high).z

-- a point in parts, as it lies in the cell: X is negated under `mirror`, Z under `mirror_z`
abbrev pub point_in_cell : ℕ → Frame → Point → Point
point_in_cell d frame q = record {
  x = signed_number frame.mirror q.x +ℤ (in_parts d frame.shift).x;
  z = signed_number frame.mirror_z q.z +ℤ (in_parts d frame.shift).z;
}

-- two points in parts differ by more than the gap in X or in Z
abbrev pub AreApart : ℕ → Point → Point → Point → Type 0
AreApart d gap p q =
    ((in_parts d gap).x <ℤ pos (distance p.x q.x)) ⊎ ((in_parts d gap).z <ℤ pos (distance p.z q.z))
