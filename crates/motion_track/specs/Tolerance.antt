-- What it means that an arc ends on its circle, in lengths and without a square root: the law
-- `arcs_end_on_their_circle` (src/circle.rt) says it for readers. No other crate cites it.
use Rattle.std.specs.Prelude.{ℕ, ◌+◌, ◌*◌, ◌≤◌, ℤ}
use Rattle.nc_number.specs.declared.point.Point.{Point}
use Rattle.motion_track.specs.Circle.{tolerance, place_of, centre_from, square_between}

-- a length of p / q reaches a place whose squared distance this is
abbrev pub Reaches : ℕ → ℕ → ℕ → Type 0
Reaches p q square = q * q * square ≤ p * p

-- whatever length reaches the one place reaches the other when the tolerance is added
abbrev pub IsAtMostFarther : ℕ → ℕ → Type 0
IsAtMostFarther other one = (p q : ℕ) → Reaches p q one → Reaches (p + tolerance * q) q other

-- the end of an arc lies within the tolerance of the circle through its start round the centre:
-- it is at most so much farther from the centre than the start, and at most so much nearer
abbrev pub EndsOnCircle : Point → Point → ℤ → ℤ → Type 0
EndsOnCircle at to i k =
    let middle = centre_from (place_of at) i k in
    let from_start = square_between middle (place_of at) in
    let from_end = square_between middle (place_of to) in
    IsAtMostFarther from_end from_start × IsAtMostFarther from_start from_end
