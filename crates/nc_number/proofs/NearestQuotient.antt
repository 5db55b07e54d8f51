-- `nearest_quotient` is the nearest whole number, and goes away from zero where two are equally
-- near: for two laws of src/laws.rt. First come counts, then numbers with signs. ReadsBack.antt and
-- others here take the facts on signs.
use Rattle.std.proofs.Common.{◌≡◌, ◌≢◌, ◌<◌, ◌≤◌, ◌*◌, ◌+◌, ◌/◌, ◌%◌, ℕ, zero, suc, ℤ, pos, negsuc, neg_ℤ, ◌*ℤ◌, ◌-ℤ◌, Bool, true, false, cond, refl, ap, sym, subst, ◌∙◌, arith, inl, inr}
use Rattle.std.specs.Prelude.{nat_le, unsigned_abs}
use Rattle.std.specs.Int.{is_negative, abs_diff}
use Rattle.std.proofs.lemmas.Bool.{cases_lt, leb-true, leb-false, le-ltb}
use Rattle.std.proofs.Math.IntN.{pos-*ℤ-pos, pos-*ℤ-negsuc, negsuc-*ℤ-pos, *ℤ-negsuc, neg_ℤ-neg_ℤ}
use Rattle.std.proofs.lemmas.Nat.{mod_below, div-add-mod'}
use Rattle.std.proofs.lemmas.Int.{ints, unsigned_abs-mul}
use Rattle.std.proofs.Math.Nat.{mul-le-mul_right}
use Rattle.nc_number.specs.Signs.{with_sign, differ}
use Rattle.nc_number.specs.Arithmetic.{nearest, nearest_quotient}

-- no multiple of d is nearer to n than the one by `nearest`
nearest_is_near : (n d m : ℕ) → 0 < d → abs_diff n (nearest n d * d) ≤ abs_diff n (m * d)
nearest_is_near n d m positive = go (nat_le d (2 * (n % d))) refl
  where
    go : (test : Bool) → nat_le d (2 * (n % d)) ≡ test → abs_diff n (cond test (n / d + 1) (n / d) * d) ≤ abs_diff n (m * d)
    go true is = let more = leb-true _ _ is in let split = div-add-mod' n d in let rest = mod_below n d positive in
        elim (cases_lt (n / d) m) [
          | inl above ↦ (let up : n / d + 1 ≤ m = omega arith in let past = mul-le-mul_right d up in omega arith)
          | inr below ↦ (let past = mul-le-mul_right d below in omega arith)
        ]
    go false is = let less = leb-false _ _ is in let split = div-add-mod' n d in let rest = mod_below n d positive in
        elim (cases_lt (n / d) m) [
          | inl above ↦ (let up : n / d + 1 ≤ m = omega arith in let past = mul-le-mul_right d up in omega arith)
          | inr below ↦ (let past = mul-le-mul_right d below in omega arith)
        ]

-- a multiple of d that is as near to n as the one by `nearest` is not greater
nearest_is_greatest : (n d m : ℕ) → 0 < d → abs_diff n (m * d) ≤ abs_diff n (nearest n d * d) → m ≤ nearest n d
nearest_is_greatest n d m positive = go (nat_le d (2 * (n % d))) refl
  where
    go : (test : Bool) → nat_le d (2 * (n % d)) ≡ test → abs_diff n (m * d) ≤ abs_diff n (cond test (n / d + 1) (n / d) * d) → m ≤ cond test (n / d + 1) (n / d)
    go true is near = let more = leb-true _ _ is in let split = div-add-mod' n d in let rest = mod_below n d positive in
        elim (cases_lt (n / d + 1) m) [
          | inl above ↦ (let up : n / d + 2 ≤ m = omega arith in let past = mul-le-mul_right d up in absurd (omega arith))
          | inr below ↦ below
        ]
    go false is near = let less = leb-false _ _ is in let split = div-add-mod' n d in let rest = mod_below n d positive in
        elim (cases_lt (n / d) m) [
          | inl above ↦ (let up : n / d + 1 ≤ m = omega arith in let past = mul-le-mul_right d up in absurd (omega arith))
          | inr below ↦ below
        ]

-- the size of a count that was given a sign is that count
pub size_with_sign : (minus : Bool) (n : ℕ) → unsigned_abs (with_sign minus n) ≡ n
size_with_sign false n = refl
size_with_sign true n = omega (arith, ints)

-- a count is not negative
pub negative_pos : (n : ℕ) → is_negative (pos n) ≡ false
negative_pos n = le-ltb n 0 (omega arith)

-- a whole number is its size with its sign
pub signed_size : (a : ℤ) → with_sign (is_negative a) (unsigned_abs a) ≡ a
signed_size (pos n) = rw (negative_pos n) refl
signed_size (negsuc n) = refl

-- a count with a minus is negative, unless it is 0
pub negative_neg : (n : ℕ) → neg_ℤ (pos n) ≢ pos 0 → is_negative (neg_ℤ (pos n)) ≡ true
negative_neg zero nonzero = absurd (nonzero refl)
negative_neg (suc n) nonzero = refl

-- minus n times m is minus their product
neg_times : (n m : ℕ) → neg_ℤ (pos n) *ℤ pos m ≡ neg_ℤ (pos (n * m))
neg_times zero m = let none : 0 * m ≡ 0 = omega arith in rw none refl
neg_times (suc n) m = negsuc-*ℤ-pos n m

-- a quotient with its sign, times the divisor, has the sign of the dividend
pub signed_times : (s : Bool) (n : ℕ) (b : ℤ) → with_sign (differ s (is_negative b)) n *ℤ b ≡ with_sign s (n * unsigned_abs b)
signed_times false n (pos m) = rw (negative_pos m) (pos-*ℤ-pos n m)
signed_times true n (pos m) = rw (negative_pos m) (neg_times n m)
signed_times false n (negsuc m) =
    *ℤ-negsuc (neg_ℤ (pos n)) m ∙ ap neg_ℤ (neg_times n (suc m)) ∙ neg_ℤ-neg_ℤ (pos (n * suc m))
signed_times true n (negsuc m) = pos-*ℤ-negsuc n m

-- two numbers with one sign are as far apart as without it
signed_distance : (s : Bool) (x y : ℕ) → unsigned_abs (with_sign s x -ℤ with_sign s y) ≡ abs_diff x y
signed_distance false x y = omega (arith, ints)
signed_distance true x y = omega (arith, ints)

-- the sizes of two numbers are no farther apart than the numbers
distance_of_sizes : (x y : ℤ) → abs_diff (unsigned_abs x) (unsigned_abs y) ≤ unsigned_abs (x -ℤ y)
distance_of_sizes x y = omega (arith, ints)

-- the size of a number that isn't 0 is above 0
positive_size : (b : ℤ) → b ≢ pos 0 → 0 < unsigned_abs b
positive_size b nonzero = elim (cases_lt 0 (unsigned_abs b)) [
  | inl positive ↦ positive
  | inr none ↦ (let zero_is : b ≡ pos 0 = omega (arith, ints) in absurd (nonzero zero_is))
]

-- the nearest multiple of b is as far from a as their sizes are apart
quotient_distance : (a b : ℤ) → unsigned_abs (a -ℤ nearest_quotient a b *ℤ b) ≡ abs_diff (unsigned_abs a) (nearest (unsigned_abs a) (unsigned_abs b) * unsigned_abs b)
quotient_distance a b =
    let near = nearest (unsigned_abs a) (unsigned_abs b) in
    ap (λ z. unsigned_abs (a -ℤ z)) (signed_times (is_negative a) near b)
    ∙ ap (λ z. unsigned_abs (z -ℤ with_sign (is_negative a) (near * unsigned_abs b))) (sym (signed_size a))
    ∙ signed_distance (is_negative a) (unsigned_abs a) (near * unsigned_abs b)

-- any multiple of b is at least as far from a as their sizes are apart
multiple_distance : (a b k : ℤ) → abs_diff (unsigned_abs a) (unsigned_abs k * unsigned_abs b) ≤ unsigned_abs (a -ℤ k *ℤ b)
multiple_distance a b k =
    subst (λ n. abs_diff (unsigned_abs a) n ≤ unsigned_abs (a -ℤ k *ℤ b)) (unsigned_abs-mul k b) (distance_of_sizes a (k *ℤ b))

-- no multiple of b is nearer to a than the nearest quotient's
pub quotient_is_near : (a b k : ℤ) → b ≢ pos 0 → unsigned_abs (a -ℤ nearest_quotient a b *ℤ b) ≤ unsigned_abs (a -ℤ k *ℤ b)
quotient_is_near a b k nonzero =
    let near = nearest_is_near (unsigned_abs a) (unsigned_abs b) (unsigned_abs k) (positive_size b nonzero) in
    let multiple = multiple_distance a b k in
    let is = quotient_distance a b in
    rw is (omega arith)

-- a multiple that is as near as the nearest quotient's is not of a greater factor
pub quotient_is_far_from_zero : (a b k : ℤ) → b ≢ pos 0 → unsigned_abs (a -ℤ k *ℤ b) ≡ unsigned_abs (a -ℤ nearest_quotient a b *ℤ b) → unsigned_abs k ≤ unsigned_abs (nearest_quotient a b)
quotient_is_far_from_zero a b k nonzero tie =
    let multiple = multiple_distance a b k in
    let near : abs_diff (unsigned_abs a) (unsigned_abs k * unsigned_abs b) ≤ abs_diff (unsigned_abs a) (nearest (unsigned_abs a) (unsigned_abs b) * unsigned_abs b) =
    subst (λ n. abs_diff (unsigned_abs a) (unsigned_abs k * unsigned_abs b) ≤ n) (tie ∙ quotient_distance a b) multiple in
    let size : unsigned_abs (nearest_quotient a b) ≡ nearest (unsigned_abs a) (unsigned_abs b) = size_with_sign (differ (is_negative a) (is_negative b)) _ in
    subst (λ n. unsigned_abs k ≤ n) (sym size) (nearest_is_greatest (unsigned_abs a) (unsigned_abs b) (unsigned_abs k) (positive_size b nonzero) near)
