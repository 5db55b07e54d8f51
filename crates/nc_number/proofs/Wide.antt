-- Values and their products as src/arithmetic.rt counts them, in numbers of 128 bits, which hold
-- them all. For the proofs of `mul`, `div`, `modulo` and `sqrt`, and for Remainders.antt.
use Rattle.std.proofs.Common.{◌≡◌, ◌<◌, ◌≤◌, ◌*◌, ℕ, ℤ, pos, negsuc, suc, ◌*ℤ◌, ◌-ℤ◌, ◌+◌, true, false, refl, ◌∙◌, Ok, arith}
use Rattle.std.specs.Prelude.{unsigned_abs, FitsSigned, int_rem, int_div}
use Rattle.std.specs.Int.{w128, cast_signed, cast_unsigned, is_negative}
use Rattle.std.proofs.lemmas.Int.{to_z-of_z, fits_signed_from_abs, fits_signed_mul, rem_below, quot-rem, ints}
use Rattle.std.proofs.lemmas.Bool.{ne_eqb, eqb-false, le-leb}
use Rattle.nc_number.specs.Arithmetic.{is_zero, nearest_quotient, checked_value, product_of, quotient_of, remainder_of, root_of}
use Rattle.nc_number.proofs.Roots.{square_root_is, root_below}
use Rattle.nc_number.specs.Range.{InRange, is_in_range}

-- a value is the same when counted in 128 bits
pub wide_is : (a : ℤ) → InRange a → cast_signed w128 (cast_unsigned w128 a) ≡ a
wide_is a range = to_z-of_z w128 a (fits_signed_from_abs w128 a (omega arith))

-- the product of two values fits 128 bits
product_fits : (a b : ℤ) → InRange a → InRange b → FitsSigned w128 (a *ℤ b)
product_fits a b left right = fits_signed_mul w128 a b 99999999999999 99999999999999 left right (omega arith)

-- the product of two values is the same when counted in 128 bits
pub wide_product_is : (a b : ℤ) → InRange a → InRange b → cast_signed w128 (cast_unsigned w128 (a *ℤ b)) ≡ a *ℤ b
wide_product_is a b left right = to_z-of_z w128 (a *ℤ b) (product_fits a b left right)

-- a divisor whose 128 bits are not all 0 is not 0
pub divides : (b : ℤ) → (cast_unsigned w128 b ≡ 0 → ⊥) → is_zero b ≡ false
divides (pos n) nonzero = ne_eqb n 0 nonzero
divides (negsuc n) nonzero = ne_eqb (suc n) 0 (λ e. cc)

-- the size of a divisor that passes the test that it isn't 0 is above 0
pub below_divisor : (b : ℤ) → is_zero b ≡ false → 0 < unsigned_abs b
below_divisor b nonzero = let other = eqb-false (unsigned_abs b) 0 nonzero in omega arith

-- the remainder of a division by a value other than 0 is in the range of a value
rest_in_range : (a b : ℤ) → is_zero b ≡ false → InRange b → InRange (int_rem a b)
rest_in_range a b nonzero range = let below = rem_below a b (below_divisor b nonzero) in omega arith

-- a remainder is what is left when the quotient's multiple is taken away
pub rest_is : (a b : ℤ) → int_rem a b ≡ a -ℤ int_div a b *ℤ b
rest_is a b = let parts = quot-rem a b in omega (arith, ints)

-- a number in the range passes the check of the range
checked_in_range : (z : ℤ) → InRange z → checked_value z ≡ Ok z
checked_in_range z range = let test : is_in_range z ≡ true = le-leb _ _ range in rw test refl

-- the remainder that the code checks is the control's
pub remainder_is : (a b : ℤ) → is_zero b ≡ false → InRange b → checked_value (int_rem a b) ≡ remainder_of a b
remainder_is a b nonzero range =
    checked_in_range (int_rem a b) (rest_in_range a b nonzero range) ∙ rw (nonzero, rest_is a b) refl

-- a remainder is the same when counted in 128 bits
pub wide_rest_is : (a b : ℤ) → is_zero b ≡ false → InRange b → cast_signed w128 (cast_unsigned w128 (int_rem a b)) ≡ int_rem a b
wide_rest_is a b nonzero range = wide_is (int_rem a b) (rest_in_range a b nonzero range)

-- the rounded product that the code checks is the control's
pub product_is : (a b : ℤ) → checked_value (nearest_quotient (a *ℤ b) (pos 1000000)) ≡ product_of a b
product_is a b = refl

-- the rounded quotient that the code checks is the control's
pub quotient_is : (a b : ℤ) → is_zero b ≡ false → checked_value (nearest_quotient (a *ℤ pos 1000000) b) ≡ quotient_of a b
quotient_is a b nonzero = rw nonzero refl

-- the number whose square is at most a million times the count of a, while the next one's is more,
-- is the control's root of a
pub root_is : (a : ℤ) (s : ℕ) → InRange a → is_negative a ≡ false → s * s ≤ unsigned_abs a * 1000000 → unsigned_abs a * 1000000 < (s + 1) * (s + 1)
    → checked_value (pos s) ≡ root_of a
root_is a s range sign low high =
    let greatest = square_root_is (unsigned_abs a * 1000000) s low high in
    let small : InRange (pos s) = omega (arith, root_below s (unsigned_abs a * 1000000) low (omega arith)) in
    checked_in_range (pos s) small ∙ rw (sign, greatest) refl
