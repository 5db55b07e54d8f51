-- Arcs, and when the end of one lies on its circle, in 0.0005 mm.
use Rattle.std.specs.Prelude.{ℕ, ◌+◌, ◌-◌, ◌*◌, ◌≤◌, max, min, Bool, ◌&&◌, nat_lt, if◌then◌else◌, ℤ, pos, ◌+ℤ◌, ◌-ℤ◌, ◌*ℤ◌, unsigned_abs, Option, Some, None, Result, Err}
use Rattle.nc_number.specs.declared.point.Point.{Point}
use Rattle.nc_moves.specs.declared.motion.Move.{Move}
use Rattle.nc_moves.specs.declared.motion.Move.TheVariants.{Arc}
use Rattle.nc_moves.specs.declared.motion.Centre.{Centre}
use Rattle.nc_moves.specs.declared.motion.Centre.TheVariants.{Offset, Radius}
use Rattle.motion_track.specs.declared.circle.Place.{Place}
use Rattle.motion_track.specs.declared.fault.MotionFault.{MotionFault}
use Rattle.nc_number.specs.declared.cause.Cause.TheVariants.{ArcRadius, NoCentre}
use Rattle.motion_track.specs.Faults.{fault}
use Rattle.motion_track.specs.Cut.{at_feed}

-- no part of the place is farther from 0 than that
abbrev pub IsNear : ℕ → Place → Type 0
IsNear far p = (unsigned_abs p.across ≤ far) × (unsigned_abs p.along ≤ far)

-- a point in 0.0005 mm: X is a diameter in 0.001 mm, so its number stays
abbrev pub place_of : Point → Place
place_of p = record { across = p.x; along = pos 2 *ℤ p.z }

-- the centre of an arc, from its start and I and K in 0.001 mm
abbrev pub centre_from : Place → ℤ → ℤ → Place
centre_from start i k = record { across = start.across +ℤ pos 2 *ℤ i; along = start.along +ℤ pos 2 *ℤ k }

-- the square of the distance of two places, in units of 0.0005 mm
abbrev pub square_between : Place → Place → ℕ
square_between a b =
    let across = unsigned_abs (a.across -ℤ b.across) in
    let along = unsigned_abs (a.along -ℤ b.along) in
    across * across + along * along

-- how far the end of an arc may lie from its circle: 20 * 0.0005 mm. It is `TOLERANCE` of
-- src/circle.rt, and the 20, 400 and 1,600 of proofs/Tolerance.
abbrev pub tolerance : ℕ
tolerance = 20

-- places at these squared distances from a centre, the larger first, lie on no circle round it
-- within the tolerance: the root of `far` is more than the root of `near` and the tolerance
abbrev pub is_past_tolerance : ℕ → ℕ → Bool
is_past_tolerance far near =
    let excess = far - (near + tolerance * tolerance) in
    nat_lt (near + tolerance * tolerance) far && nat_lt (4 * tolerance * tolerance * near) (excess * excess)

-- no arc round this centre, within the tolerance, or of this radius leads from `at` to `to`
abbrev pub misses : Point → Point → Centre → Bool
misses at to (Offset i k) =
    let middle = centre_from (place_of at) i k in
    let from_start = square_between middle (place_of at) in
    let from_end = square_between middle (place_of to) in
    is_past_tolerance (max from_start from_end) (min from_start from_end)
misses at to (Radius r) =
    let diameter = 4 * unsigned_abs r in
    nat_lt (diameter * diameter) (square_between (place_of at) (place_of to))

-- the arc; else alarm 43 without a centre, 42 if its end is not on the circle or past its radius,
-- 44 if the feed is 0
abbrev pub arc_of : Point → Point → Bool → Option Centre → ℤ → Bool → Result Move MotionFault
arc_of at to clockwise None feed per_rev = Err (fault NoCentre)
arc_of at to clockwise (Some centre) feed per_rev =
    if misses at to centre then Err (fault ArcRadius) else at_feed feed (Arc clockwise to centre feed per_rev)
