-- What the written points of a corner keep, in 0.0005 mm: of places and not of the code's tests.
use Rattle.std.specs.Prelude.{◌≡◌, ℕ, ◌+◌, ◌-◌, ◌*◌, ◌≤◌, ℤ, pos, ◌≤ℤ◌, ◌<ℤ◌, unsigned_abs}
use Rattle.plane_ways.specs.declared.place.Place.{Place}
use Rattle.plane_ways.specs.declared.place.Side.{Side}
use Rattle.plane_ways.specs.declared.place.Side.TheVariants.{Left}
use Rattle.plane_ways.specs.Plane.{way, square}
use Rattle.plane_ways.specs.Points.{place_of}
use Rattle.corner_form.specs.declared.corner.TheConstants.{NEAR, ROUND}
use Rattle.corner_form.specs.declared.corner.Corner.{Corner}
use Rattle.corner_form.specs.declared.corner.CornerEnds.{CornerEnds}
use Rattle.corner_form.specs.declared.corner.RoundCorner.{RoundCorner}
use Rattle.corner_form.specs.Shape.{ahead_of, beside_of}
use Rattle.corner_form.specs.Cuts.{before, tip, after, counts, middle_of}

-- the place lies between p and q, no more than `NEAR` beside the line from p to q. Heights are times
-- the line's length.
pub record LiesOn (p q at : Place) : Type 0 where
  pub after : pos 0 ≤ℤ ahead_of p q at
  pub before : ahead_of p q at ≤ℤ pos (square (way p q))
  pub near : unsigned_abs (beside_of Left p q at) * unsigned_abs (beside_of Left p q at) ≤ NEAR * NEAR * square (way p q)

-- a length of n, times the root of `size`, is `high`, within `NEAR`
pub record IsLength (n size high : ℕ) : Type 0 where
  pub least : (n - NEAR) * (n - NEAR) * size ≤ high * high
  pub most : high * high ≤ (n + NEAR) * (n + NEAR) * size

-- the place lies r to that side of the line from p to q
pub record LiesBeside (r : ℕ) (s : Side) (p q at : Place) : Type 0 where
  pub side : pos 0 <ℤ beside_of s p q at
  pub length : IsLength r (square (way p q)) (unsigned_abs (beside_of s p q at))

-- the places are r from each other, within `ROUND`
pub record IsRound (r : ℕ) (middle at : Place) : Type 0 where
  pub least : (r - ROUND) * (r - ROUND) ≤ square (way middle at)
  pub most : square (way middle at) ≤ (r + ROUND) * (r + ROUND)

-- both ends of a chamfer lie on their lines, as far from the corner as it says
pub record IsChamfer (corner : Corner) (ends : CornerEnds) : Type 0 where
  pub first : LiesOn (tip corner) (before corner) (place_of ends.start)
  pub second : LiesOn (tip corner) (after corner) (place_of ends.end)
  pub start : IsLength (counts corner) (square (way (tip corner) (before corner))) (unsigned_abs (ahead_of (tip corner) (before corner) (place_of ends.start)))
  pub end : IsLength (counts corner) (square (way (tip corner) (after corner))) (unsigned_abs (ahead_of (tip corner) (after corner) (place_of ends.end)))

-- both ends of a rounding lie on their lines, its centre at the radius beside both lines, on the
-- side to which it turns, and at the radius from both ends
pub record IsRounding (corner : Corner) (round : RoundCorner) : Type 0 where
  pub first : LiesOn (tip corner) (before corner) (place_of round.ends.start)
  pub second : LiesOn (tip corner) (after corner) (place_of round.ends.end)
  pub touches_first : LiesBeside (counts corner) round.side (before corner) (tip corner) (middle_of round)
  pub touches_second : LiesBeside (counts corner) round.side (tip corner) (after corner) (middle_of round)
  pub start : IsRound (counts corner) (middle_of round) (place_of round.ends.start)
  pub end : IsRound (counts corner) (middle_of round) (place_of round.ends.end)
