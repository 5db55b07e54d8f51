-- Lengths that were moved: how far, and between what they lie. This crate takes none.
use Rattle.std.proofs.Common.{◌≡◌, inl, inr, ℕ, ◌-◌, ◌≤◌, Bool, true, false, ℤ, arith}
use Rattle.std.proofs.lemmas.Int.{ints}
use Rattle.nc_number.specs.Distances.{distance, IsBetween}
use Rattle.plain_block.specs.Shifts.{moved}

-- how far a length was moved
pub moved_by : (down : Bool) (x : ℤ) (n : ℕ) → distance (moved down x n) x ≡ n
moved_by true x n = omega (arith, ints)
moved_by false x n = omega (arith, ints)

-- how far two lengths are apart that were moved from one place by so much and by more
pub moved_apart : (down : Bool) (z : ℤ) (a b : ℕ) → a ≤ b → distance (moved down z b) (moved down z a) ≡ b - a
moved_apart true z a b less = omega (arith, ints)
moved_apart false z a b less = omega (arith, ints)

-- a length that was moved by so much lies between where it was moved by less and by more
pub moved_between : (down : Bool) (z : ℤ) (a b c : ℕ) → a ≤ b → b ≤ c → IsBetween (moved down z a) (moved down z b) (moved down z c)
moved_between true z a b c low high = inr (omega (arith, ints), omega (arith, ints))
moved_between false z a b c low high = inl (omega (arith, ints), omega (arith, ints))

-- the same from where it was
pub between_from : (down : Bool) (z : ℤ) (a b : ℕ) → a ≤ b → IsBetween z (moved down z a) (moved down z b)
between_from true z a b less = inr (omega (arith, ints), omega (arith, ints))
between_from false z a b less = inl (omega (arith, ints), omega (arith, ints))

-- a length moved by nothing is where it was
pub stays : (down : Bool) (z : ℤ) (n : ℕ) → n ≡ 0 → moved down z n ≡ z
stays true z n none = omega (arith, ints, none)
stays false z n none = omega (arith, ints, none)
