-- If something holds of some number, it holds of a least one; this is said without finding it.
-- FirstFault and Refused take it.
use Rattle.std.proofs.Common.{ℕ, zero, suc, ◌<◌, ◌≤◌, inl, inr, arith}
use Rattle.nc_number.proofs.Counts.{le_or_lt}

-- If P has no least number, it holds of no number below k: they are looked at one by one.
none_below : (P : ℕ → Type 0) → ((n : ℕ) → P n → ((m : ℕ) → P m → n ≤ m) → ⊥) → (k n : ℕ) → n < k → P n → ⊥
none_below P not_least zero n below holds = absurd (omega arith)
none_below P not_least (suc k) n below holds = not_least n holds (λ m other. elim (le_or_lt n m) [
  | inl le ↦ le
  | inr less ↦ absurd (none_below P not_least k m (omega arith) other)
])

-- If P has no least number, it holds of none.
pub none_at_all : (P : ℕ → Type 0) → ((n : ℕ) → P n → ((m : ℕ) → P m → n ≤ m) → ⊥) → (n : ℕ) → P n → ⊥
none_at_all P not_least n = none_below P not_least (suc n) n (omega arith)
