-- How far two lengths are apart, and whether a length lies between two others.
use Rattle.std.specs.Prelude.{ℕ, ◌⊎◌, ℤ, ◌-ℤ◌, ◌≤ℤ◌, unsigned_abs}

-- how far two lengths are apart
abbrev pub distance : ℤ → ℤ → ℕ
distance a b = unsigned_abs (a -ℤ b)

-- b lies between a and c, or is one of them
abbrev pub IsBetween : ℤ → ℤ → ℤ → Type 0
IsBetween a b c = ((a ≤ℤ b) × (b ≤ℤ c)) ⊎ ((c ≤ℤ b) × (b ≤ℤ a))
