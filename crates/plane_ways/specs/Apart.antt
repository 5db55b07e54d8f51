-- Two lines that keep a distance: the test, and what it means for all their places.
use Rattle.std.specs.Prelude.{ℕ, ◌+◌, ◌*◌, ◌≤◌, Bool, true, ◌&&◌, ◌||◌, nat_le, List, [], ◌∷◌, ℤ, pos, ◌-ℤ◌, unsigned_abs, int_lt}
use Rattle.std.specs.Int.{int_min, int_max}
use Rattle.plane_ways.specs.declared.place.Place.{Place}
use Rattle.plane_ways.specs.declared.place.Side.TheVariants.{Left, Right}
use Rattle.plane_ways.specs.Plane.{way, dot, square, turned, times, part}

-- how far, along w, the line from p to q lies before the line from a to b, times the length of w
abbrev pub gap : Place → Place → Place → Place → Place → ℤ
gap w a b p q = int_min (dot w p) (dot w q) -ℤ int_max (dot w a) (dot w b)

-- along w the two lines are at least d from each other
unfoldable pub is_wide : ℕ → Place → Place → Place → Place → Place → Bool
is_wide d w a b p q =
    int_lt (pos 0) (gap w a b p q)
    && nat_le (d * d * square w) (unsigned_abs (gap w a b p q) * unsigned_abs (gap w a b p q))

-- every place of the line from a to b, in j + k parts, is at least d from every place of the line
-- from p to q, in i + l parts
abbrev pub AreApart : ℕ → Place → Place → Place → Place → Type 0
AreApart d a b p q = (j k i l : ℕ) →
    d * ((j + k) * (i + l)) * (d * ((j + k) * (i + l))) ≤ square (way (times (i + l) (part j k a b)) (times (j + k) (part i l p q)))

-- the two lines are at least d from each other along a normal of one of them, on either side, or
-- along the way from an end of the one to an end of the other: if they are that far apart, one of
-- these ways shows it
abbrev pub is_apart : ℕ → Place → Place → Place → Place → Bool
is_apart d a b p q =
    (is_wide d (turned Left (way a b)) a b p q || is_wide d (turned Right (way a b)) a b p q)
    || (is_wide d (turned Left (way p q)) a b p q || is_wide d (turned Right (way p q)) a b p q)
    || is_wide d (way a p) a b p q
    || is_wide d (way a q) a b p q
    || is_wide d (way b p) a b p q
    || is_wide d (way b q) a b p q

-- the line from a to b is at least d from each line of a contour of this first place and those after
-- it
abbrev pub is_off : ℕ → Place → Place → Place → List Place → Bool
is_off d a b p [] = true
is_off d a b p (q ∷ points) = is_apart d a b p q && is_off d a b q points

-- every place of a line from a to b is at least d from every place of a contour
abbrev pub IsOff : ℕ → Place → Place → Place → List Place → Type 0
IsOff d a b p [] = Unit {0}
IsOff d a b p (q ∷ points) = AreApart d a b p q × IsOff d a b q points
