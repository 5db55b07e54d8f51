-- Ways and places of the plane, in 0.0005 mm.
use Rattle.std.specs.Prelude.{ℕ, ◌+◌, ◌*◌, ◌≤◌, ℤ, pos, neg_ℤ, ◌+ℤ◌, ◌-ℤ◌, ◌*ℤ◌, unsigned_abs}
use Rattle.plane_ways.specs.declared.place.Place.{Place}
use Rattle.plane_ways.specs.declared.place.Side.{Side}
use Rattle.plane_ways.specs.declared.place.Side.TheVariants.{Left, Right}

-- the way from one place to another
abbrev pub way : Place → Place → Place
way from to = record { across = to.across -ℤ from.across; along = to.along -ℤ from.along }

-- how far a way goes along another, times the length of that one
abbrev pub dot : Place → Place → ℤ
dot w v = w.across *ℤ v.across +ℤ w.along *ℤ v.along

-- the square of a way's length
abbrev pub square : Place → ℕ
square w = unsigned_abs w.across * unsigned_abs w.across + unsigned_abs w.along * unsigned_abs w.along

-- a way of the same length a right angle to that side
abbrev pub turned : Side → Place → Place
turned Left w = record { across = w.along; along = neg_ℤ w.across }
turned Right w = record { across = neg_ℤ w.along; along = w.across }

-- n times a place
abbrev pub times : ℕ → Place → Place
times n p = record { across = pos n *ℤ p.across; along = pos n *ℤ p.along }

-- the sum of two places
abbrev pub plus : Place → Place → Place
plus p q = record { across = p.across +ℤ q.across; along = p.along +ℤ q.along }

-- j + k times the place that lies k parts of j + k on the way from a to b
abbrev pub part : ℕ → ℕ → Place → Place → Place
part j k a b = plus (times j a) (times k b)

-- no part is farther from 0 than that
abbrev pub IsWithin : ℕ → Place → Type 0
IsWithin far p = (unsigned_abs p.across ≤ far) × (unsigned_abs p.along ≤ far)
