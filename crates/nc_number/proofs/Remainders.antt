-- Remainders of divisions: smaller than the divisor, with the sign of what is divided. For the law
-- `a_remainder_keeps_the_sign` of src/laws.rt.
use Rattle.std.proofs.Common.{◌≡◌, ◌≢◌, ◌<◌, ◌%◌, suc, ℤ, pos, negsuc, ◌+ℤ◌, ◌*ℤ◌, ◌-ℤ◌, Bool, true, false, cond, refl, sym, subst, ◌∙◌}
use Rattle.std.specs.Prelude.{unsigned_abs, int_rem, int_div, Ok, Err}
use Rattle.std.specs.Int.{is_negative}
use Rattle.std.proofs.lemmas.Int.{rem_below, quot-rem}
use Rattle.nc_number.specs.declared.fault.NumberFault.TheVariants.{ZeroDivide}
use Rattle.nc_number.specs.Arithmetic.{is_zero, remainder_of}
use Rattle.nc_number.proofs.NearestQuotient.{negative_pos, negative_neg}
use Rattle.nc_number.proofs.Wide.{rest_is, below_divisor}

-- a remainder that isn't 0 has the sign of what is divided
rest_sign : (a b : ℤ) → int_rem a b ≢ pos 0 → is_negative (int_rem a b) ≡ is_negative a
rest_sign (pos n) b nonzero = negative_pos _ ∙ sym (negative_pos n)
rest_sign (negsuc n) b nonzero = negative_neg (suc n % unsigned_abs b) nonzero

-- if the control gives a remainder, the divisor isn't 0 and the remainder is that of the division
rest_of : (a b r : ℤ) → remainder_of a b ≡ Ok r → (is_zero b ≡ false) × (int_rem a b ≡ r)
rest_of a b r is = go (is_zero b) refl is
  where
    go : (test : Bool) → is_zero b ≡ test → cond test (Err ZeroDivide) (Ok (a -ℤ int_div a b *ℤ b)) ≡ Ok r → (is_zero b ≡ false) × (int_rem a b ≡ r)
    go true zero same = cc
    go false nonzero same = (nonzero, rest_is a b ∙ cc)

-- the remainder that the control gives is smaller than the divisor
pub rest_is_smaller : (a b r : ℤ) → remainder_of a b ≡ Ok r → unsigned_abs r < unsigned_abs b
rest_is_smaller a b r is =
    let of = rest_of a b r is in
    subst (λ z. unsigned_abs z < unsigned_abs b) of.1 (rem_below a b (below_divisor b of.0))

-- the remainder that the control gives has the sign of what is divided
pub rest_keeps_sign : (a b r : ℤ) → remainder_of a b ≡ Ok r → r ≢ pos 0 → is_negative r ≡ is_negative a
rest_keeps_sign a b r is =
    subst (λ z. z ≢ pos 0 → is_negative z ≡ is_negative a) (rest_of a b r is).1 (rest_sign a b)

-- what is divided is a multiple of the divisor and the remainder
pub rest_of_multiples : (a b r : ℤ) → remainder_of a b ≡ Ok r → (q : ℤ) × (a ≡ q *ℤ b +ℤ r)
rest_of_multiples a b r is =
    let of = rest_of a b r is in
    (int_div a b, subst (λ z. a ≡ int_div a b *ℤ b +ℤ z) of.1 (sym (quot-rem a b)))
