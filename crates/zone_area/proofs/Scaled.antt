-- Lengths in parts of a count of 0.001 mm, d parts to a count: their order, sums and differences.
-- Apart.antt and InArea.antt rest on it.
use Rattle.std.proofs.Common.{◌≡◌, ℕ, zero, suc, ◌≤◌, ℤ, pos, ◌+ℤ◌, ◌-ℤ◌, ◌*ℤ◌, ◌≤ℤ◌, ◌<ℤ◌, neg_ℤ, refl, arith}
use Rattle.std.proofs.lemmas.Int.{ints}
use Rattle.std.proofs.Math.IntN.{suc_ℤ-*ℤ, zero-*ℤ}

-- one part more to a count is the length once more
one_more : (d : ℕ) (z : ℤ) → pos (suc d) *ℤ z ≡ (pos d *ℤ z +ℤ z)
one_more d z = suc_ℤ-*ℤ (pos d) z

-- in parts, lengths keep their order
pub scaled_le : (d : ℕ) (a b : ℤ) → a ≤ℤ b → (pos d *ℤ a) ≤ℤ (pos d *ℤ b)
scaled_le zero a b le = rw (zero-*ℤ a, zero-*ℤ b) (omega (arith, ints))
scaled_le (suc d) a b le =
    let rest = scaled_le d a b le in
    rw (one_more d a, one_more d b) (omega (arith, ints))

-- a sum in parts is the sum of the lengths in parts
pub scaled_add : (d : ℕ) (a b : ℤ) → (pos d *ℤ (a +ℤ b)) ≡ (pos d *ℤ a +ℤ pos d *ℤ b)
scaled_add zero a b = rw (zero-*ℤ (a +ℤ b), zero-*ℤ a, zero-*ℤ b) refl
scaled_add (suc d) a b =
    let rest = scaled_add d a b in
    rw (one_more d (a +ℤ b), one_more d a, one_more d b) (omega (arith, ints))

-- a difference in parts is the difference of the lengths in parts
pub scaled_sub : (d : ℕ) (a b : ℤ) → (pos d *ℤ (a -ℤ b)) ≡ (pos d *ℤ a -ℤ pos d *ℤ b)
scaled_sub zero a b = rw (zero-*ℤ (a -ℤ b), zero-*ℤ a, zero-*ℤ b) refl
scaled_sub (suc d) a b =
    let rest = scaled_sub d a b in
    rw (one_more d (a -ℤ b), one_more d a, one_more d b) (omega (arith, ints))

-- with at least one part to a count, a lesser length stays less in parts
pub scaled_lt : (d : ℕ) (a b : ℤ) → 1 ≤ d → a <ℤ b → (pos d *ℤ a) <ℤ (pos d *ℤ b)
scaled_lt zero a b some lt = elim some [ ]
scaled_lt (suc d) a b some lt =
    let rest = scaled_le d a b (omega (arith, ints)) in
    rw (one_more d a, one_more d b) (omega (arith, ints))

-- a negated length in parts is the length in parts, negated
pub scaled_neg : (d : ℕ) (a : ℤ) → (pos d *ℤ neg_ℤ a) ≡ neg_ℤ (pos d *ℤ a)
scaled_neg zero a = rw (zero-*ℤ (neg_ℤ a), zero-*ℤ a) refl
scaled_neg (suc d) a =
    let rest = scaled_neg d a in
    rw (one_more d (neg_ℤ a), one_more d a) (omega (arith, ints))
