-- Where the programmed point of a tool lies from its nose's centre, by the number of its tip, and
-- what is written of a place.
use Rattle.std.specs.Prelude.{ℕ, ◌==◌, ◌||◌, if◌then◌else◌, ℤ, pos, neg_ℤ, ◌+ℤ◌, ◌-ℤ◌, ◌*ℤ◌, int_div}
use Rattle.nc_number.specs.declared.point.Point.{Point}
use Rattle.plane_ways.specs.declared.place.Place.{Place}

-- across from the centre of a nose of radius r: tips 1, 2 and 6 are farther out, 3, 4 and 8 farther
-- in
abbrev pub across_of : ℕ → ℕ → ℤ
across_of tip r =
    if tip == 1 || tip == 2 || tip == 6 then pos r else if tip == 3 || tip == 4 || tip == 8 then neg_ℤ (pos r) else pos 0

-- along from it: tips 1, 4 and 5 are on the far side of the chuck, 2, 3 and 7 on its side
abbrev pub along_of : ℕ → ℕ → ℤ
along_of tip r =
    if tip == 1 || tip == 4 || tip == 5 then pos r else if tip == 2 || tip == 3 || tip == 7 then neg_ℤ (pos r) else pos 0

-- the programmed point of a tool whose nose's centre is at a place: X a diameter, Z, in 0.001 mm
abbrev pub point_of : ℕ → ℕ → Place → Point
point_of tip r at = record { x = at.across +ℤ across_of tip r; z = int_div (at.along +ℤ along_of tip r) (pos 2) }

-- the nose's centre when the programmed point is at a point
abbrev pub centre_of : ℕ → ℕ → Point → Place
centre_of tip r p = record { across = p.x -ℤ across_of tip r; along = pos 2 *ℤ p.z -ℤ along_of tip r }
