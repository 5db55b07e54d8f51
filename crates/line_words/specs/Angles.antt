-- The direction of an angle, by turns through its digits. src/angle.rt computes it.
use Rattle.std.specs.Prelude.{ℕ, zero, suc, ◌+◌, ◌*◌, ◌/◌, ◌%◌, ◌≤◌, Bool, ◌==◌, if◌then◌else◌, ℤ, pos, neg_ℤ, ◌+ℤ◌, ◌-ℤ◌, ◌*ℤ◌, unsigned_abs, int_div, int_lt, int_le}
use Rattle.line_words.specs.declared.angle.Heading.{Heading}
use Rattle.line_words.specs.declared.angle.TheConstants.{LONG_WAY, LONGEST_PART, AHEAD, TEN, ONE, TENTH, HUNDREDTH, THOUSANDTH}

-- a part of a direction, held within twice its length
abbrev pub clamped : ℤ → ℤ
clamped part =
    if int_lt LONGEST_PART part then LONGEST_PART else if int_lt part (neg_ℤ LONGEST_PART) then neg_ℤ LONGEST_PART else part

-- the cosine and the sine of a direction turned by another one
abbrev pub spun_cosine : Heading → Heading → ℤ
spun_cosine at by = clamped (int_div (at.cosine *ℤ by.cosine -ℤ at.sine *ℤ by.sine) LONG_WAY)

abbrev pub spun_sine : Heading → Heading → ℤ
spun_sine at by = clamped (int_div (at.sine *ℤ by.cosine +ℤ at.cosine *ℤ by.sine) LONG_WAY)

-- a direction turned by another one
abbrev pub spin : Heading → Heading → Heading
spin at by = record { cosine = spun_cosine at by; sine = spun_sine at by }

-- a direction turned by another one so many times
abbrev pub spun : ℕ → Heading → Heading → Heading
spun zero by at = at
spun (suc times) by at = spun times by (spin at by)

-- the direction of an angle below 90 degrees, in 0.001 degrees: a turn for each of its digits
abbrev pub spun_by : ℕ → Heading
spun_by angle =
    spun (angle % 10) THOUSANDTH (spun (angle / 10 % 10) HUNDREDTH (spun (angle / 100 % 10) TENTH
    (spun (angle / 1000 % 10) ONE (spun (angle / 10000) TEN AHEAD))))

-- the direction a quarter of a turn further
abbrev pub quarter : Heading → Heading
quarter at = record { cosine = neg_ℤ at.sine; sine = at.cosine }

-- the direction of an angle in 0.001 degrees, or the opposite one
abbrev pub direction_of : ℕ → Heading
direction_of angle = if angle / 90000 % 2 == 0 then spun_by (angle % 90000) else quarter (spun_by (angle % 90000))

-- just one of two numbers is negative
abbrev pub differ : ℤ → ℤ → Bool
differ n d = if int_lt n (pos 0) then int_le (pos 0) d else int_lt d (pos 0)

-- n / d, to the nearest whole number, a half away from 0
abbrev pub nearest_size : ℕ → ℕ → ℕ
nearest_size n d = (2 * n + d) / (2 * d)

abbrev pub nearest : ℤ → ℤ → ℤ
nearest n d =
    if unsigned_abs d == 0
    then pos 0
    else if differ n d
    then neg_ℤ (pos (nearest_size (unsigned_abs n) (unsigned_abs d)))
    else pos (nearest_size (unsigned_abs n) (unsigned_abs d))

-- a direction's parts are at most twice its length
pub record IsFlat (at : Heading) : Type 0 where
  pub cosine : unsigned_abs at.cosine ≤ 2000000000000
  pub sine : unsigned_abs at.sine ≤ 2000000000000
