-- A leg of the path beside its line: on the tool's side, at the radius from it within 0.002 mm, and
-- the line's way.
use Rattle.std.specs.Prelude.{ℕ, ◌+◌, ◌-◌, ◌*◌, ◌≤◌, Bool, ◌&&◌, nat_le, List, [], ◌∷◌, ℤ, pos, ◌≤ℤ◌, unsigned_abs, int_lt, int_le}
use Rattle.plane_ways.specs.declared.place.Place.{Place}
use Rattle.plane_ways.specs.declared.place.Side.{Side}
use Rattle.plane_ways.specs.declared.place.Line.{Line}
use Rattle.nose_path.specs.declared.nose.TheConstants.{OFF}
use Rattle.plane_ways.specs.Plane.{way, dot, square, turned, times, part}

-- how far a place lies to that side of the line from p to q, times the line's length
abbrev pub height : Side → Place → Place → Place → ℤ
height s p q at = dot (turned s (way p q)) (way p at)

-- the place lies to that side of the line, at r from it, within `OFF`
unfoldable pub is_beside : Side → ℕ → Place → Place → Place → Bool
is_beside s r p q at =
    let high = unsigned_abs (height s p q at) in
    int_lt (pos 0) (height s p q at)
    && nat_le ((r - OFF) * (r - OFF) * square (way p q)) (high * high)
    && nat_le (high * high) ((r + OFF) * (r + OFF) * square (way p q))

-- the leg keeps beside the line from p to q, and does not go back along it
abbrev pub keeps_beside : Side → ℕ → Place → Place → Line → Bool
keeps_beside s r p q leg =
    is_beside s r p q leg.from && is_beside s r p q leg.to && int_le (pos 0) (dot (way p q) (way leg.from leg.to))

-- Each place of the leg, k parts of j + k on its way, lies to that side of the line from p to q, at
-- r from it, within `OFF`. Heights are times the line's length, and times j + k.
pub record IsBeside (s : Side) (r : ℕ) (p q : Place) (leg : Line) : Type 0 where
  -- on that side
  pub side : (j k : ℕ) → pos 0 ≤ℤ dot (turned s (way p q)) (way (times (j + k) p) (part j k leg.from leg.to))
  -- no nearer
  pub far : (j k : ℕ) →
      (j + k) * (j + k) * ((r - OFF) * (r - OFF) * square (way p q))
      ≤ unsigned_abs (dot (turned s (way p q)) (way (times (j + k) p) (part j k leg.from leg.to)))
      * unsigned_abs (dot (turned s (way p q)) (way (times (j + k) p) (part j k leg.from leg.to)))
  -- no farther
  pub near : (j k : ℕ) →
      unsigned_abs (dot (turned s (way p q)) (way (times (j + k) p) (part j k leg.from leg.to)))
      * unsigned_abs (dot (turned s (way p q)) (way (times (j + k) p) (part j k leg.from leg.to)))
      ≤ (j + k) * (j + k) * ((r + OFF) * (r + OFF) * square (way p q))

-- each line of a contour of the places p and q and those after them has its leg beside it; one more
-- leg leads off
abbrev pub AreBeside : Side → ℕ → Place → Place → List Place → List Line → Type 0
AreBeside s r p q points [] = ⊥
AreBeside s r p q [] (leg ∷ []) = ⊥
AreBeside s r p q [] (leg ∷ off ∷ []) = IsBeside s r p q leg
AreBeside s r p q [] (leg ∷ off ∷ other ∷ legs) = ⊥
AreBeside s r p q (t ∷ points) (leg ∷ legs) = IsBeside s r p q leg × AreBeside s r q t points legs

-- so have those of a contour of this first place and those after it; one leg leads to it
abbrev pub HasLegs : Side → ℕ → Place → List Place → List Line → Type 0
HasLegs s r p [] legs = ⊥
HasLegs s r p (q ∷ points) [] = ⊥
HasLegs s r p (q ∷ points) (lead ∷ legs) = AreBeside s r p q points legs
