-- One turn of those that are left, and products of parts. For `spun` and `product` (src/angle.rt).
use Rattle.std.proofs.Common.{◌≡◌, Bool, true, false, ◌<◌, ◌≤◌, ◌-◌, ◌*◌, ℕ, zero, suc, ℤ, pos, ◌*ℤ◌, ◌+ℤ◌, ◌-ℤ◌, unsigned_abs, to_z, of_z, FitsSigned, refl, arith, ap, ◌∙◌}
use Rattle.std.specs.Int.{w64, w128}
use Rattle.std.specs.Prelude.{int_div}
use Rattle.std.specs.Ordering.{int_eq}
use Rattle.std.proofs.lemmas.Bool.Decides.{Decides-int_eq}
use Rattle.std.proofs.lemmas.Int.{ints, to_z-of_z, fits_signed_from_abs, unsigned_abs-mul}
use Rattle.std.proofs.Math.Nat.{mul-le-mul}
use Rattle.line_words.specs.declared.angle.Heading.{Heading}
use Rattle.line_words.specs.declared.angle.TheConstants.{LONG_WAY}
use Rattle.line_words.specs.Angles.{clamped, nearest, spin, spun}

pub spun_on : (left : ℕ) (by at : Heading) → 0 < left → spun (left - 1) by (spin at by) ≡ spun left by at
spun_on zero by at some = absurd (omega (arith, some))
spun_on (suc left) by at some =
    let same : suc left - 1 ≡ left = omega arith in ap (λ n. spun n by (spin at by)) same

-- a part is stored as it is
pub stored : (z : ℤ) → unsigned_abs z ≤ 100000000000000000000000000 → to_z w128 (of_z w128 z) ≡ z
stored z near = to_z-of_z w128 z (fits_signed_from_abs w128 z (omega arith))

-- the size of a product of two parts
bound : (a b : ℤ) → unsigned_abs a ≤ 2000000000000 → unsigned_abs b ≤ 2000000000000 → unsigned_abs (a *ℤ b) ≤ 2000000000000 * 2000000000000
bound a b la lb = rw (unsigned_abs-mul a b) (mul-le-mul la lb)

pub product_fits : (a b : ℤ) → unsigned_abs a ≤ 2000000000000 → unsigned_abs b ≤ 2000000000000
    → FitsSigned w128 (to_z w128 (of_z w128 a) *ℤ to_z w128 (of_z w128 b))
product_fits a b la lb =
    let near = bound a b la lb in
    rw (stored a (omega (arith, la)), stored b (omega (arith, lb))) (fits_signed_from_abs w128 (a *ℤ b) (omega (arith, near)))

pub product_is : (a b : ℤ) → unsigned_abs a ≤ 2000000000000 → unsigned_abs b ≤ 2000000000000
    → to_z w128 (of_z w128 (to_z w128 (of_z w128 a) *ℤ to_z w128 (of_z w128 b))) ≡ (a *ℤ b)
product_is a b la lb =
    let near = bound a b la lb in
    rw (stored a (omega (arith, la)), stored b (omega (arith, lb))) (stored (a *ℤ b) (omega (arith, near)))

pub product_near : (a b : ℤ) → unsigned_abs a ≤ 2000000000000 → unsigned_abs b ≤ 2000000000000
    → unsigned_abs (to_z w128 (of_z w128 (to_z w128 (of_z w128 a) *ℤ to_z w128 (of_z w128 b)))) ≤ 4000000000000000000000000
product_near a b la lb = let near = bound a b la lb in rw (product_is a b la lb) (omega (arith, near))

-- a product of stored parts
pub stored_product : (a b r : ℤ) → r ≡ (to_z w128 (of_z w128 a) *ℤ to_z w128 (of_z w128 b)) → unsigned_abs a ≤ 2000000000000 → unsigned_abs b ≤ 2000000000000
    → r ≡ (a *ℤ b)
stored_product a b r is la lb = is ∙ rw (stored a (omega (arith, la)), stored b (omega (arith, lb))) refl

-- a difference and a sum of stored products
pub less_is : (p q : ℤ) → unsigned_abs p ≤ 4000000000000000000000000 → unsigned_abs q ≤ 4000000000000000000000000
    → to_z w128 (of_z w128 (to_z w128 (of_z w128 p) -ℤ to_z w128 (of_z w128 q))) ≡ (p -ℤ q)
less_is p q lp lq =
    rw (stored p (omega (arith, lp)), stored q (omega (arith, lq))) (to_z-of_z w128 (p -ℤ q) (fits_signed_from_abs w128 (p -ℤ q) (omega (arith, ints))))

pub sum_is : (p q : ℤ) → unsigned_abs p ≤ 4000000000000000000000000 → unsigned_abs q ≤ 4000000000000000000000000
    → to_z w128 (of_z w128 (to_z w128 (of_z w128 p) +ℤ to_z w128 (of_z w128 q))) ≡ (p +ℤ q)
sum_is p q lp lq =
    rw (stored p (omega (arith, lp)), stored q (omega (arith, lq))) (to_z-of_z w128 (p +ℤ q) (fits_signed_from_abs w128 (p +ℤ q) (omega (arith, ints))))

-- a part of a direction that was turned is the one of its definition
pub cosine_is : (a b c d p q r : ℤ) → unsigned_abs p ≤ 4000000000000000000000000 → unsigned_abs q ≤ 4000000000000000000000000 → p ≡ (a *ℤ b) → q ≡ (c *ℤ d)
    → unsigned_abs r ≤ 2000000000000 → r ≡ clamped (int_div (to_z w128 (of_z w128 (to_z w128 (of_z w128 p) -ℤ to_z w128 (of_z w128 q)))) LONG_WAY)
    → to_z w128 (of_z w128 r) ≡ clamped (int_div (a *ℤ b -ℤ c *ℤ d) LONG_WAY)
cosine_is a b c d p q r lp lq pe qe lr is =
    let e : to_z w128 (of_z w128 (to_z w128 (of_z w128 p) -ℤ to_z w128 (of_z w128 q))) ≡ (a *ℤ b -ℤ c *ℤ d) = less_is p q lp lq ∙ rw (pe, qe) refl in
    stored r (omega (arith, lr)) ∙ is ∙ ap (λ n. clamped (int_div n LONG_WAY)) e

pub sine_is : (a b c d p q r : ℤ) → unsigned_abs p ≤ 4000000000000000000000000 → unsigned_abs q ≤ 4000000000000000000000000 → p ≡ (a *ℤ b) → q ≡ (c *ℤ d)
    → unsigned_abs r ≤ 2000000000000 → r ≡ clamped (int_div (to_z w128 (of_z w128 (to_z w128 (of_z w128 p) +ℤ to_z w128 (of_z w128 q)))) LONG_WAY)
    → to_z w128 (of_z w128 r) ≡ clamped (int_div (a *ℤ b +ℤ c *ℤ d) LONG_WAY)
sine_is a b c d p q r lp lq pe qe lr is =
    let e : to_z w128 (of_z w128 (to_z w128 (of_z w128 p) +ℤ to_z w128 (of_z w128 q))) ≡ (a *ℤ b +ℤ c *ℤ d) = sum_is p q lp lq ∙ rw (pe, qe) refl in
    stored r (omega (arith, lr)) ∙ is ∙ ap (λ n. clamped (int_div n LONG_WAY)) e

-- a way is stored as it is
pub stored_way : (z : ℤ) → unsigned_abs z ≤ 200000000 → to_z w64 (of_z w64 z) ≡ z
stored_way z near = to_z-of_z w64 z (fits_signed_from_abs w64 z (omega arith))

-- how far a line goes across is what its definition says
pub across_is : (t w s c p r : ℤ) → t ≡ (pos 2 *ℤ w) → unsigned_abs t ≤ 400000000 → unsigned_abs s ≤ 2000000000000 → unsigned_abs c ≤ 2000000000000
    → p ≡ (to_z w128 (of_z w128 t) *ℤ to_z w128 (of_z w128 s)) → unsigned_abs p ≤ 4000000000000000000000000
    → unsigned_abs r ≤ 8000000000004000000000000 → r ≡ nearest (to_z w128 (of_z w128 p)) (to_z w128 (of_z w128 c))
    → to_z w128 (of_z w128 r) ≡ nearest (pos 2 *ℤ w *ℤ s) c
across_is t w s c p r te lt ls lc pe lp lr is =
    let n : to_z w128 (of_z w128 p) ≡ (pos 2 *ℤ w *ℤ s) = stored p (omega (arith, lp)) ∙ pe ∙ rw (stored t (omega (arith, lt)), stored s (omega (arith, ls)), te) refl in
    let d : to_z w128 (of_z w128 c) ≡ c = stored c (omega (arith, lc)) in
    stored r (omega (arith, lr)) ∙ is ∙ ap (λ k. nearest k (to_z w128 (of_z w128 c))) n ∙ ap (λ k. nearest (pos 2 *ℤ w *ℤ s) k) d

-- how far it goes along
pub along_is : (t w u s c p r : ℤ) → t ≡ w → unsigned_abs t ≤ 200000000 → u ≡ (pos 2 *ℤ to_z w128 (of_z w128 s)) → unsigned_abs s ≤ 2000000000000
    → unsigned_abs u ≤ 4000000000000 → unsigned_abs c ≤ 2000000000000
    → p ≡ (to_z w128 (of_z w128 t) *ℤ to_z w128 (of_z w128 c)) → unsigned_abs p ≤ 4000000000000000000000000
    → unsigned_abs r ≤ 8000000000004000000000000 → r ≡ nearest (to_z w128 (of_z w128 p)) (to_z w128 (of_z w128 u))
    → to_z w128 (of_z w128 r) ≡ nearest (w *ℤ c) (pos 2 *ℤ s)
along_is t w u s c p r te lt ue ls lu lc pe lp lr is =
    let n : to_z w128 (of_z w128 p) ≡ (w *ℤ c) = stored p (omega (arith, lp)) ∙ pe ∙ rw (stored t (omega (arith, lt)), stored c (omega (arith, lc)), te) refl in
    let d : to_z w128 (of_z w128 u) ≡ (pos 2 *ℤ s) = stored u (omega (arith, lu)) ∙ ue ∙ ap (λ k. pos 2 *ℤ k) (stored s (omega (arith, ls))) in
    stored r (omega (arith, lr)) ∙ is ∙ ap (λ k. nearest k (to_z w128 (of_z w128 u))) n ∙ ap (λ k. nearest (w *ℤ c) k) d

-- numbers that are not equal fail the test
pub differs : (x y : ℤ) → (x ≡ y → ⊥) → int_eq x y ≡ false
differs x y other = go (int_eq x y) refl where
  go : (b : Bool) → int_eq x y ≡ b → int_eq x y ≡ false
  go true e = absurd (other ((Decides-int_eq x y).0 e))
  go false e = e
