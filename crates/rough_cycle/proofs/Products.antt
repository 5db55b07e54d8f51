-- Products and parts of lengths: they fit the numbers of 64 and 128 bits in which the code keeps
-- them. For the arithmetic of src/contour.rt, and for LeastEnd and NothingInside.
use Rattle.std.proofs.Common.{◌≡◌, ℕ, suc, ◌*◌, ◌/◌, ◌<◌, ◌≤◌, ℤ, pos, ◌*ℤ◌, refl, ◌∙◌, arith, ◌⊎◌, inl, inr, to_z, of_z, FitsSigned}
use Rattle.std.specs.Int.{w64, w128}
use Rattle.std.specs.Prelude.{unsigned_abs, int_lt, ◌-ℤ◌}
use Rattle.nc_number.specs.declared.point.Point.{Point}
use Rattle.nc_number.specs.Distances.{distance}
use Rattle.rough_cycle.specs.Inside.{is_below_line}
use Rattle.std.proofs.lemmas.Int.{ints, unsigned_abs-mul, fits_signed_from_abs, to_z-of_z}
use Rattle.std.proofs.lemmas.Nat.{div-add-mod'}
use Rattle.std.proofs.lemmas.Bool.{cases_lt}
use Rattle.std.proofs.Math.Nat.{mul-le-mul, mul-le-mul_left, mul-le-mul_right}

-- a quotient times the divisor is at most the number
pub quotient_below : (n d : ℕ) → n / d * d ≤ n
quotient_below n d = let split = div-add-mod' n d in omega arith

-- a share of a length l, k parts in w of it, is at most l
pub part_below : (l k w : ℕ) → k ≤ w → 0 < w → l * k / w ≤ l
part_below l k w less some = go (cases_lt l (l * k / w))
  where
    go : (l < l * k / w) ⊎ (l * k / w ≤ l) → l * k / w ≤ l
    go (inr low) = low
    go (inl high) =
        let scaled : suc l * w ≤ l * k / w * w = mul-le-mul_right w high in
        let reached : l * k / w * w ≤ l * k = quotient_below (l * k) w in
        let far : l * k ≤ l * w = mul-le-mul_left l less in
        absurd (omega (arith, scaled, reached, far, some))

-- a product of lengths of at most 2,000 km is at most 4 * 10 ^ 24
pub product_bound : (a b : ℕ) → a ≤ 2000000000000 → b ≤ 2000000000000 → a * b ≤ 4000000000000000000000000
product_bound a b la lb = let le : a * b ≤ 2000000000000 * 2000000000000 = mul-le-mul la lb in le

-- the product of two lengths fits 128 bits
pub product_fits : (a : ℤ) (b : ℕ) → unsigned_abs a ≤ 2000000000000 → b ≤ 2000000000000 → FitsSigned w128 (a *ℤ pos b)
product_fits a b la lb = fits_signed_from_abs w128 (a *ℤ pos b) (rw (unsigned_abs-mul a (pos b)) (let le = product_bound (unsigned_abs a) b la lb in omega arith))

-- the product of two lengths that the code stores in 128 bits is exact
pub product_is : (a x y : ℤ) (b : ℕ) → unsigned_abs a ≤ 2000000000000 → b ≤ 2000000000000 → x ≡ a → y ≡ pos b → to_z w128 (of_z w128 (to_z w128 (of_z w128 x) *ℤ to_z w128 (of_z w128 y))) ≡ a *ℤ pos b
product_is a x y b la lb x_is y_is =
    let x_fits : FitsSigned w128 a = fits_signed_from_abs w128 a (omega arith) in
    let y_fits : FitsSigned w128 (pos b) = fits_signed_from_abs w128 (pos b) (omega arith) in
    rw (x_is, y_is, to_z-of_z w128 a x_fits, to_z-of_z w128 (pos b) y_fits) (to_z-of_z w128 (a *ℤ pos b) (product_fits a b la lb))

-- the product of two lengths of at most 2,000 km that were stored fits 128 bits
pub product_fits_stored : (a x y : ℤ) (b : ℕ) → unsigned_abs a ≤ 2000000000000 → b ≤ 2000000000000 → x ≡ a → y ≡ pos b → FitsSigned w128 (to_z w128 (of_z w128 x) *ℤ to_z w128 (of_z w128 y))
product_fits_stored a x y b la lb x_is y_is =
    let x_fits : FitsSigned w128 a = fits_signed_from_abs w128 a (omega arith) in
    let y_fits : FitsSigned w128 (pos b) = fits_signed_from_abs w128 (pos b) (omega arith) in
    rw (x_is, y_is, to_z-of_z w128 a x_fits, to_z-of_z w128 (pos b) y_fits) (product_fits a b la lb)

-- the code's test of two stored products is whether the point is below the line
pub below_stored : (p q at : Point) (m n : ℤ)
    → m ≡ ((at.x -ℤ p.x) *ℤ pos (distance q.z p.z)) → n ≡ ((q.x -ℤ p.x) *ℤ pos (distance at.z p.z))
    → FitsSigned w128 m → FitsSigned w128 n
    → int_lt (to_z w128 (of_z w128 m)) (to_z w128 (of_z w128 n)) ≡ is_below_line p q at
below_stored p q at m n m_is n_is m_fits n_fits = rw (to_z-of_z w128 m m_fits, to_z-of_z w128 n n_fits, m_is, n_is) refl

-- the difference of two lengths of at most 1,000 km fits 64 bits
pub stored_apart : (a b : ℤ) → unsigned_abs a ≤ 1000000000000 → unsigned_abs b ≤ 1000000000000 → to_z w64 (of_z w64 (to_z w64 (of_z w64 a) -ℤ to_z w64 (of_z w64 b))) ≡ (a -ℤ b)
stored_apart a b near_a near_b = omega (arith, ints)

-- equal lengths have equal shares
pub same_share : (r a b d x y z : ℕ) → r ≡ a * b / d → a ≡ x → b ≡ y → d ≡ z → r ≡ x * y / z
same_share r a b d x y z is ax by dz = is ∙ rw (ax, by, dz) refl
