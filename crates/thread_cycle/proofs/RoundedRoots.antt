-- Roots of so many squares of one number, rounded down or up: each is at most that number more than
-- the one before, and takes no more of the section. For the laws of depths (src/law.rt), in
-- SteadyCuts.
use Rattle.std.proofs.Common.{◌≡◌, ◌==◌, inl, inr, ℕ, ◌+◌, ◌-◌, ◌*◌, ◌<◌, ◌≤◌, Bool, true, false, cond, refl, arith}
use Rattle.std.proofs.lemmas.Bool.{cases_lt}
use Rattle.std.proofs.lemmas.Bool.Decides.{nat_tests}
use Rattle.std.proofs.lemmas.Nat.{mul-le}
use Rattle.nc_number.specs.Arithmetic.{square_root}
use Rattle.nc_number.proofs.Roots.{root_squares, root_next, root_le}
use Rattle.thread_cycle.specs.declared.rounding.RootRounding.{RootRounding}
use Rattle.thread_cycle.specs.declared.rounding.RootRounding.TheVariants.{Down, Up}
use Rattle.thread_cycle.specs.Cuts.{IsSection}
use Rattle.thread_cycle.specs.Depths.{rounded_root}

-- rounded up

-- the square of a root that was rounded up is no less than the number
up_reaches : (n : ℕ) → n ≤ rounded_root Up n * rounded_root Up n
up_reaches n = go (square_root n * square_root n == n) refl
  where
    go : (whole : Bool) → (square_root n * square_root n == n) ≡ whole
        → n ≤ cond whole (square_root n) (square_root n + 1) * cond whole (square_root n) (square_root n + 1)
    go true test = let same : square_root n * square_root n ≡ n = grind (arith, nat_tests) in omega (arith, same)
    go false test = let next = root_next n in omega (arith, next)

-- it is at most each number of which that is so
up_least : (n a : ℕ) → n ≤ a * a → rounded_root Up n ≤ a
up_least n a enough = go (square_root n * square_root n == n) refl
  where
    low : square_root n * square_root n ≤ n
    low = root_squares n n

    go : (whole : Bool) → (square_root n * square_root n == n) ≡ whole → cond whole (square_root n) (square_root n + 1) ≤ a
    go true test = elim (cases_lt a (square_root n)) [
      | inl less ↦ (let past : a + 1 ≤ square_root n = omega (arith, less) in
          let squares = mul-le _ _ _ _ past past in
          absurd (omega (arith, squares, low, enough)))
      | inr more ↦ more
    ]
    go false test = elim (cases_lt (square_root n) a) [
      | inl less ↦ omega (arith, less)
      | inr more ↦ (let other : square_root n * square_root n ≡ n → ⊥ = λ same. (let passes : (square_root n * square_root n == n) ≡ true = grind (arith, nat_tests) in cc) in
          let squares = mul-le _ _ _ _ more more in
          let same : square_root n * square_root n ≡ n = omega (arith, squares, low, enough) in
          absurd (other same))
    ]

-- rounded down or up

-- the root of no square is 0
pub root_start : (side : RootRounding) (f : ℕ) → rounded_root side (f * f * 0) ≤ 0
root_start Down f = let square = root_squares (f * f * 0) (f * f * 0) in root_le (square_root (f * f * 0)) 0 (omega (arith, square))
root_start Up f = up_least (f * f * 0) 0 (omega arith)

-- one square more
one_more : (f n : ℕ) → f * f * (n + 1) ≡ f * f * n + f * f
one_more f n = omega arith

-- the square of a root of one square more is less than the first's and that of the number after the
-- root before
down_section : (f n : ℕ) → square_root (f * f * (n + 1)) * square_root (f * f * (n + 1)) < f * f + (square_root (f * f * n) + 1) * (square_root (f * f * n) + 1)
down_section f n =
    let low = root_squares (f * f * (n + 1)) (f * f * (n + 1)) in
    let high = root_next (f * f * n) in
    let part = one_more f n in
    omega (arith, low, high, part)

-- what is cut to a root of one square more, after no less than the root before
pub root_section : (side : RootRounding) (f n last d : ℕ) → rounded_root side (f * f * n) ≤ last → 1 ≤ d → d ≤ rounded_root side (f * f * (n + 1)) → IsSection side f last d
root_section Down f n last d reached some under =
    let section = down_section f n in
    let square : d * d ≤ square_root (f * f * (n + 1)) * square_root (f * f * (n + 1)) = mul-le _ _ _ _ under under in
    let less : square_root (f * f * n) + 1 ≤ last + 1 = omega (arith, reached) in
    let before : (square_root (f * f * n) + 1) * (square_root (f * f * n) + 1) ≤ (last + 1) * (last + 1) = mul-le _ _ _ _ less less in
    omega (arith, square, section, before)
root_section Up f n last d reached some under = elim (cases_lt ((d - 1) * (d - 1)) (f * f * (n + 1))) [
  | inl less ↦ (let high = up_reaches (f * f * n) in
      let before = mul-le _ _ _ _ reached reached in
      let part = one_more f n in
      omega (arith, less, high, before, part))
  | inr more ↦ (let least = up_least (f * f * (n + 1)) (d - 1) more in absurd (omega (arith, least, under, some)))
]

-- a root of one square more is at most the number more than the one before
pub root_step : (side : RootRounding) (f n : ℕ) → rounded_root side (f * f * (n + 1)) ≤ rounded_root side (f * f * n) + f
root_step Down f n = elim (cases_lt (a + f) b) [
  | inl more ↦ (let past : a + f + 1 ≤ b = omega (arith, more) in
      let squares = mul-le _ _ _ _ past past in
      let whole : (a + f + 1) * (a + f + 1) ≡ (a + 1) * (a + 1) + f * f + 2 * (f * (a + 1)) = omega arith in
      let section = down_section f n in
      absurd (omega (arith, squares, whole, section)))
  | inr enough ↦ enough
]
  where
    a : ℕ
    a = square_root (f * f * n)

    b : ℕ
    b = square_root (f * f * (n + 1))
root_step Up f n = up_least (f * f * (n + 1)) (a + f) (let high = up_reaches (f * f * n) in
    let part = one_more f n in
    let whole : (a + f) * (a + f) ≡ a * a + 2 * (a * f) + f * f = omega arith in
    omega (arith, high, part, whole))
  where
    a : ℕ
    a = rounded_root Up (f * f * n)
