-- The centre of an arc that is given by its radius, as I and K rounded to 0.001 mm. The ways of the
-- chord and the parts of the height count 0.0005 mm: a diameter as it stands, and a length twice.
use Rattle.std.specs.Prelude.{ℕ, ◌+◌, ◌-◌, ◌*◌, ◌/◌, Bool, true, false, not, ◌&&◌, ◌==◌, ℤ, pos, neg_ℤ, ◌+ℤ◌, ◌-ℤ◌, ◌*ℤ◌, unsigned_abs, int_lt, int_le, nat_eq, nat_le, nat_lt, Option, Some, None, if◌then◌else◌}
use Rattle.nc_number.specs.declared.limits.TheConstants.{LONGEST_SAID}
use Rattle.nc_number.specs.declared.point.Point.{Point}
use Rattle.nc_number.specs.Arithmetic.{square_root}
use Rattle.contour_words.specs.declared.radius.Centre.{Centre}

-- whether an arc is short enough: 100 m
abbrev pub is_near_arc : ℤ → ℤ → ℕ → Bool
is_near_arc across along r =
    nat_le r 100000000 && nat_le (unsigned_abs across) 200000000 && nat_le (unsigned_abs along) 200000000

-- the root, rounded down
abbrev pub root_of : ℕ → ℤ
root_of square = pos (square_root square)

-- the part of the height of an arc's triangle that lies along an axis, if the chord's part across it is
-- this long
abbrev pub arm : ℕ → ℕ → ℕ → ℤ
arm height way chord = root_of (height * (way * way) / chord)

-- a length with another one added, or taken off
abbrev pub aside : ℤ → Bool → ℤ → ℤ
aside length adds by = if adds then length +ℤ by else length -ℤ by

-- a quarter of a number, rounded to the nearest, halves away from zero
abbrev pub quarter : ℤ → ℤ
quarter number =
    if int_lt number (pos 0) then neg_ℤ (pos ((unsigned_abs number + 2) / 4)) else pos ((unsigned_abs number + 2) / 4)

-- the centre, if a literal can write it
abbrev pub near_centre : ℤ → ℤ → Option Centre
near_centre i k =
    if nat_le (unsigned_abs i) LONGEST_SAID && nat_le (unsigned_abs k) LONGEST_SAID
    then Some (record { i = i; k = k })
    else None

-- two truth values are one
abbrev pub same : Bool → Bool → Bool
same a b = if a then b else not b

-- the square of the chord
abbrev pub chord_of : ℤ → ℤ → ℕ
chord_of across along = unsigned_abs across * unsigned_abs across + unsigned_abs along * unsigned_abs along

-- the square of twice the height of the triangle of a radius over a chord, if there is one
abbrev pub height_of : ℕ → ℕ → Option ℕ
height_of r chord = if nat_le chord (16 * (r * r)) then Some (16 * (r * r) - chord) else None

-- the centre of an arc of these ways, if twice the height over its chord has this square
abbrev pub centre_of_height : ℤ → ℤ → Bool → ℕ → ℕ → Option Centre
centre_of_height across along clockwise height chord =
    near_centre (quarter (aside across (same (int_lt along (pos 0)) clockwise) (arm height (unsigned_abs along) chord)))
    (quarter (aside along (not (same (int_lt across (pos 0)) clockwise)) (arm height (unsigned_abs across) chord)))

-- the same, if there is a height
abbrev pub centre_with : ℤ → ℤ → Bool → ℕ → Option ℕ → Option Centre
centre_with across along clockwise chord (Some height) = centre_of_height across along clockwise height chord
centre_with across along clockwise chord None = None

-- the centre of an arc of ways and a radius that are short enough
abbrev pub centre_of_chord : ℤ → ℤ → Bool → ℕ → Option Centre
centre_of_chord across along clockwise r =
    if nat_eq (chord_of across along) 0
    then None
    else centre_with across along clockwise (chord_of across along) (height_of r (chord_of across along))

-- the centre of an arc of ways this long across, a diameter, and along, twice a length
abbrev pub centre_of_ways : ℤ → ℤ → Bool → ℕ → Option Centre
centre_of_ways across along clockwise r =
    if is_near_arc across along r then centre_of_chord across along clockwise r else None

-- the centre of the arc from p to q of radius r that is no longer than half a circle, from p
abbrev pub radius_centre : Point → Point → Bool → ℤ → Option Centre
radius_centre p q clockwise r =
    if int_le r (pos 0)
    then None
    else centre_of_ways (q.x -ℤ p.x) (pos 2 *ℤ (q.z -ℤ p.z)) clockwise (unsigned_abs r)
