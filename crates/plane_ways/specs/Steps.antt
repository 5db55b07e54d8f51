-- Steps off a place, in whole counts of 0.0005 mm; directions, and their lengths.
use Rattle.std.specs.Prelude.{◌≡◌, ℕ, ◌*◌, ◌/◌, ◌<◌, ◌≤◌, max, ◌&&◌, nat_le, if◌then◌else◌, Bool, ℤ, pos, ◌+ℤ◌, ◌*ℤ◌, unsigned_abs, Option, Some, None}
use Rattle.std.specs.Ordering.{int_eq}
use Rattle.std.specs.Int.{is_negative, div_ceil}
use Rattle.nc_number.specs.Signs.{with_sign}
use Rattle.nc_number.specs.Arithmetic.{nearest, square_root}
use Rattle.plane_ways.specs.declared.place.Place.{Place}
use Rattle.plane_ways.specs.declared.place.TheConstants.{FAR, LONG}
use Rattle.plane_ways.specs.Plane.{way, square, times, IsWithin}

-- n / d, rounded away from 0
abbrev pub from_zero : ℤ → ℕ → ℤ
from_zero n d = with_sign (is_negative n) (div_ceil (unsigned_abs n) d)

-- where the step `by` / d leads from p, in whole counts: of 1 across, of 2 along, which is 0.001 mm
-- of Z; both parts are rounded away from 0, so that the step leads off the part
abbrev pub stepped : Place → Place → ℕ → Place
stepped p by d = record { across = p.across +ℤ from_zero by.across d; along = p.along +ℤ pos 2 *ℤ from_zero by.along (2 * d) }

-- the place, if no part of it is farther than `FAR`
abbrev pub near_place : Place → Option Place
near_place p = if nat_le (unsigned_abs p.across) FAR && nat_le (unsigned_abs p.along) FAR then Some p else None

-- the places are one
abbrev pub is_same : Place → Place → Bool
is_same p q = int_eq p.across q.across && int_eq p.along q.along

-- the direction from one place to another, some `LONG` long, so that its length is whole but for a
-- part in 10^12; there is none between a place and itself
unfoldable pub direction : Place → Place → Option Place
direction p q =
    if is_same p q
    then None
    else Some (times (LONG / max (unsigned_abs (way p q).across) (unsigned_abs (way p q).along)) (way p q))

-- what a direction is
abbrev pub IsDirection : Place → Type 0
IsDirection d = IsWithin LONG d × (0 < square d)

-- the length of a way, rounded down
abbrev pub length_of : Place → ℕ
length_of d = square_root (square d)

-- the whole number nearest to n / d, halves away from 0
abbrev pub nearest_part : ℤ → ℕ → ℤ
nearest_part n d = with_sign (is_negative n) (nearest (unsigned_abs n) d)

-- where the step `by` / d leads from p, to the nearest step of whole 0.001 mm, which is of 2 counts
abbrev pub nearest_stepped : Place → Place → ℕ → Place
nearest_stepped p by d = record {
  across = p.across +ℤ pos 2 *ℤ nearest_part by.across (2 * d);
  along = p.along +ℤ pos 2 *ℤ nearest_part by.along (2 * d);
}
