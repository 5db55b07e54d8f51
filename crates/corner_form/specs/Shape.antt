-- Where places lie at lines, as tests, in 0.0005 mm. src/lines.rt computes them.
use Rattle.std.specs.Prelude.{ℕ, ◌+◌, ◌-◌, ◌*◌, Bool, ◌&&◌, nat_le, if◌then◌else◌, ℤ, pos, unsigned_abs, int_lt, int_le, Option, Some, None}
use Rattle.nc_number.specs.declared.point.Point.{Point}
use Rattle.nc_number.specs.Position.{is_position}
use Rattle.nc_number.specs.Options.{◌>>=◌}
use Rattle.plane_ways.specs.declared.place.Place.{Place}
use Rattle.plane_ways.specs.declared.place.Side.{Side}
use Rattle.plane_ways.specs.declared.place.Side.TheVariants.{Left, Right}
use Rattle.plane_ways.specs.Plane.{way, dot, square, turned}
use Rattle.plane_ways.specs.Points.{point_at}
use Rattle.corner_form.specs.declared.corner.TheConstants.{NEAR, ROUND}

-- the point that is written at a place, if it may be a position
abbrev pub position_at : Place → Option Point
position_at at = if is_position (point_at at) then Some (point_at at) else None

-- the same, if there is a place
abbrev pub written : Option Place → Option Point
written place = do
  at ← place
  position_at at

-- to which side a line of direction e turns from one of direction d, if it turns
abbrev pub side_of : Place → Place → Option Side
side_of d e =
    if int_lt (pos 0) (dot (turned Left d) e)
    then Some Left
    else if int_lt (pos 0) (dot (turned Right d) e) then Some Right else None

-- how far a place lies along the line from p to q, times the line's length
abbrev pub ahead_of : Place → Place → Place → ℤ
ahead_of p q at = dot (way p q) (way p at)

-- how far it lies to that side of the line, times the line's length
abbrev pub beside_of : Side → Place → Place → Place → ℤ
beside_of s p q at = dot (turned s (way p q)) (way p at)

-- the line from p to q reaches as far as the place
abbrev pub reaches : Place → Place → Place → Bool
reaches p q at = int_le (ahead_of p q at) (pos (square (way p q)))

-- the place lies on the line from p to q, no more than `NEAR` beside it
abbrev pub is_on : Place → Place → Place → Bool
is_on p q at =
    int_le (pos 0) (ahead_of p q at)
    && reaches p q at
    && nat_le (unsigned_abs (beside_of Left p q at) * unsigned_abs (beside_of Left p q at)) (NEAR * NEAR * square (way p q))

-- a length of n, times the root of `size`, is `high`, within `NEAR`
unfoldable pub is_length : ℕ → ℕ → ℕ → Bool
is_length n size high = nat_le ((n - NEAR) * (n - NEAR) * size) (high * high) && nat_le (high * high) ((n + NEAR) * (n + NEAR) * size)

-- the place lies n ahead of p on the way to q
abbrev pub is_ahead_by : ℕ → Place → Place → Place → Bool
is_ahead_by n p q at = is_length n (square (way p q)) (unsigned_abs (ahead_of p q at))

-- it lies r to that side of the line from p to q
abbrev pub is_beside_by : ℕ → Side → Place → Place → Place → Bool
is_beside_by r s p q at =
    int_lt (pos 0) (beside_of s p q at) && is_length r (square (way p q)) (unsigned_abs (beside_of s p q at))

-- the places are r from each other, within `ROUND`
unfoldable pub is_round : ℕ → Place → Place → Bool
is_round r middle at =
    nat_le ((r - ROUND) * (r - ROUND) * 1) (square (way middle at)) && nat_le (square (way middle at)) ((r + ROUND) * (r + ROUND) * 1)
