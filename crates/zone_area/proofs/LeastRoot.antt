-- The least number whose square is at least another. `least_root` (src/arc.rt) and InArea.antt rest
-- on it.
use Rattle.std.proofs.Common.{◌≡◌, ◌<◌, ◌≤◌, ◌*◌, ◌+◌, ℕ, zero, suc, Bool, true, false, cond, refl, arith, inl, inr, nat_le}
use Rattle.std.proofs.lemmas.Bool.{cases_lt, leb-true, leb-false}
use Rattle.std.proofs.Math.Nat.{le-mul_of_pos_right, mul-le-mul}
use Rattle.zone_area.specs.Roots.{least_root_below, least_root}

-- the square of the least root up to a bound is at least the number, if that of the bound is
root_below_reaches : (n most : ℕ) → n ≤ most * most → n ≤ least_root_below n most * least_root_below n most
unfolding least_root_below
root_below_reaches n zero within = within
root_below_reaches n (suc most) within = go (nat_le n (most * most)) refl (root_below_reaches n most)
  where
    go : (test : Bool) → nat_le n (most * most) ≡ test → (n ≤ most * most → n ≤ least_root_below n most * least_root_below n most)
        → n ≤ cond test (least_root_below n most) (suc most) * cond test (least_root_below n most) (suc most)
    go true is lower = lower (leb-true _ _ is)
    go false is lower = within

-- no number whose square is at least n is lesser than the least root up to a bound
root_below_is_least : (n most k : ℕ) → n ≤ k * k → least_root_below n most ≤ k
unfolding least_root_below
root_below_is_least n zero k square = omega arith
root_below_is_least n (suc most) k square = go (nat_le n (most * most)) refl (root_below_is_least n most k square)
  where
    go : (test : Bool) → nat_le n (most * most) ≡ test → least_root_below n most ≤ k → cond test (least_root_below n most) (suc most) ≤ k
    go true is lower = lower
    go false is lower = elim (cases_lt most k) [
      | inl less ↦ less
      | inr more ↦ (let past = leb-false _ _ is in let squares : k * k ≤ most * most = mul-le-mul more more in absurd (omega arith))
    ]

-- a number is at most its square
self_square : (n : ℕ) → n ≤ n * n
self_square zero = omega arith
self_square (suc n) = le-mul_of_pos_right (suc n) (omega arith)

-- the square of the least root is at least the number
pub root_reaches : (n : ℕ) → n ≤ least_root n * least_root n
root_reaches n = root_below_reaches n n (self_square n)

-- no number whose square is at least n is lesser than the least root
root_is_least : (n k : ℕ) → n ≤ k * k → least_root n ≤ k
root_is_least n k square = root_below_is_least n n k square

-- the least root is the one number whose square is at least n while that of the number before is
-- less
least_root_is : (n s : ℕ) → n ≤ s * s → ((k : ℕ) → s ≡ k + 1 → k * k < n) → least_root n ≡ s
least_root_is n zero reaches before = let least = root_is_least n 0 reaches in omega arith
least_root_is n (suc k) reaches before =
    let least = root_is_least n (suc k) reaches in
    let past : k * k < n = before k (omega arith) in
    let reached = root_reaches n in
    elim (cases_lt k (least_root n)) [
      | inl less ↦ omega arith
      | inr more ↦ (let squares : least_root n * least_root n ≤ k * k = mul-le-mul more more in absurd (omega arith))
    ]

-- if a root rounded down is not exact, the number after it is the least root
pub root_after : (n r : ℕ) → r * r < n → n < (r + 1) * (r + 1) → least_root n ≡ r + 1
root_after n r low high = least_root_is n (r + 1) (omega arith) (λ k e. let same : k ≡ r = omega arith in rw same low)

-- the root of a square is exact
pub root_exact : (n r : ℕ) → r * r ≤ n → n ≤ r * r → least_root n ≡ r
root_exact n r low high = least_root_is n r high (λ k e. let next : (k + 1) * (k + 1) ≤ n = (rw e at low) in omega arith)
