-- The greatest number whose square is at most another: for the root of the control (`sqrt`) and the
-- law on it.
use Rattle.std.proofs.Common.{◌≡◌, ◌<◌, ◌≤◌, ◌*◌, ◌+◌, ℕ, zero, suc, Bool, true, false, cond, refl, arith, inl, inr}
use Rattle.std.specs.Prelude.{nat_le}
use Rattle.std.proofs.lemmas.Bool.{cases_lt, leb-true, leb-false}
use Rattle.std.proofs.lemmas.Nat.{mul-le}
use Rattle.std.proofs.Math.Nat.{le-mul_of_pos_right}
use Rattle.nc_number.specs.Arithmetic.{greatest_root, square_root}

-- the square of the greatest root up to `most` is at most the number
pub root_squares : (n most : ℕ) → greatest_root n most * greatest_root n most ≤ n
unfolding greatest_root
root_squares n zero = omega arith
root_squares n (suc most) = go (nat_le (suc most * suc most) n) refl (root_squares n most)
  where
    go : (test : Bool) → nat_le (suc most * suc most) n ≡ test → greatest_root n most * greatest_root n most ≤ n
        → cond test (suc most) (greatest_root n most) * cond test (suc most) (greatest_root n most) ≤ n
    go true is below = leb-true _ _ is
    go false is below = below

-- no greater number, up to `most`, has a square that is at most n
root_is_greatest : (n most k : ℕ) → k ≤ most → k * k ≤ n → k ≤ greatest_root n most
unfolding greatest_root
root_is_greatest n zero k within square = within
root_is_greatest n (suc most) k within square =
    go (nat_le (suc most * suc most) n) refl (λ less. root_is_greatest n most k less square)
  where
    go : (test : Bool) → nat_le (suc most * suc most) n ≡ test → (k ≤ most → k ≤ greatest_root n most)
        → k ≤ cond test (suc most) (greatest_root n most)
    go true is below = within
    go false is below = elim (cases_lt k (suc most)) [
      | inl less ↦ below (omega arith)
      | inr more ↦ (let past = leb-false _ _ is in let squares = mul-le _ _ _ _ more more in absurd (omega arith))
    ]

-- the root is the one number whose square is at most n while the next one's is more
pub square_root_is : (n s : ℕ) → s * s ≤ n → n < (s + 1) * (s + 1) → square_root n ≡ s
square_root_is n s low high =
    let within : s ≤ n = elim (cases_lt 0 s) [
      | inl positive ↦ (let square : s ≤ s * s = le-mul_of_pos_right s positive in omega arith)
      | inr none ↦ omega arith
    ] in
    let least = root_is_greatest n n s within low in
    let most : square_root n ≤ s = elim (cases_lt s (square_root n)) [
      | inl more ↦ (let next : s + 1 ≤ square_root n = omega arith in
          let squares = mul-le _ _ _ _ next next in
          let root = root_squares n n in
          absurd (omega arith))
      | inr enough ↦ enough
    ] in
    omega arith

-- a number whose square is at most n, where n is below 10^26, is below 10^13: so is each root of a
-- value, far within the range
pub root_below : (s n : ℕ) → s * s ≤ n → n < 100000000000000000000000000 → s < 10000000000000
root_below s n square small = elim (cases_lt s 10000000000000) [
  | inl less ↦ less
  | inr more ↦ (let squares = mul-le _ _ _ _ more more in absurd (omega arith))
]

-- the square of the number after the root of n is above n
pub root_next : (n : ℕ) → n < (square_root n + 1) * (square_root n + 1)
root_next n = elim (cases_lt n ((square_root n + 1) * (square_root n + 1))) [
  | inl past ↦ past
  | inr within ↦ (let small : square_root n + 1 ≤ (square_root n + 1) * (square_root n + 1) = le-mul_of_pos_right (square_root n + 1) (omega arith) in
      let greater = root_is_greatest n n (square_root n + 1) (omega arith) within in
      absurd (omega arith))
]

-- a number whose square is at most another's is at most the other
pub root_le : (a b : ℕ) → a * a ≤ b * b → a ≤ b
root_le a b squares = grind arith
