-- Numbers that the code stores in 128 bits are exact.
use Rattle.std.proofs.Common.{◌≡◌, ℕ, ◌*◌, ◌≤◌, ℤ, ◌+ℤ◌, ◌-ℤ◌, ◌*ℤ◌, neg_ℤ, arith, ◌∙◌, refl, unsigned_abs, to_z, of_z, FitsSigned, inl, inr}
use Rattle.std.specs.Int.{w128, int_min, int_max}
use Rattle.std.proofs.lemmas.Int.{ints, to_z-of_z, fits_signed_from_abs, unsigned_abs-mul}
use Rattle.std.proofs.lemmas.Bool.{cases_lt}
use Rattle.std.proofs.Math.Nat.{mul-le-mul}
use Rattle.plane_ways.specs.declared.place.Place.{Place}
use Rattle.plane_ways.specs.declared.place.Side.{Side}
use Rattle.plane_ways.specs.declared.place.Side.TheVariants.{Left, Right}
use Rattle.plane_ways.specs.Plane.{way, dot, turned, IsWithin}

-- places with equal parts are equal
pub same_place : (a b x y : ℤ) → a ≡ x → b ≡ y → ◌≡◌ {A = Place} (record { across = a; along = b }) (record { across = x; along = y })
same_place a b x y across along = rw (across, along) refl

-- a difference of two numbers of at most 10 ^ 25
pub difference_is : (a b : ℤ) → unsigned_abs a ≤ 10000000000000000000000000 → unsigned_abs b ≤ 10000000000000000000000000 → to_z w128 (of_z w128 (to_z w128 (of_z w128 a) -ℤ to_z w128 (of_z w128 b))) ≡ (a -ℤ b)
difference_is a b near_a near_b = omega (arith, ints)

-- a number that fits is stored as it is
pub stored : (z : ℤ) → unsigned_abs z ≤ 10000000000000000000000000 → to_z w128 (of_z w128 z) ≡ z
stored z near = to_z-of_z w128 z (fits_signed_from_abs w128 z (omega arith))

-- a product of stored numbers
pub stored_product : (a b r : ℤ) → r ≡ (to_z w128 (of_z w128 a) *ℤ to_z w128 (of_z w128 b)) → unsigned_abs a ≤ 10000000000000000000000000 → unsigned_abs b ≤ 10000000000000000000000000 → r ≡ (a *ℤ b)
stored_product a b r is near_a near_b = is ∙ rw (stored a near_a, stored b near_b) refl

-- the size of a product
pub product_bound : (a b : ℤ) (m n : ℕ) → unsigned_abs a ≤ m → unsigned_abs b ≤ n → unsigned_abs (a *ℤ b) ≤ m * n
product_bound a b m n la lb = rw (unsigned_abs-mul a b) (mul-le-mul la lb)

-- a product of two numbers that fit
pub product_is : (a b : ℤ) → unsigned_abs a ≤ 2000000000000 → unsigned_abs b ≤ 10000000000000000000000000 → to_z w128 (of_z w128 (to_z w128 (of_z w128 a) *ℤ to_z w128 (of_z w128 b))) ≡ (a *ℤ b)
product_is a b la lb =
    let a_fits : FitsSigned w128 a = fits_signed_from_abs w128 a (omega arith) in
    let b_fits : FitsSigned w128 b = fits_signed_from_abs w128 b (omega arith) in
    let bound = product_bound a b 2000000000000 10000000000000000000000000 la lb in
    let fits : FitsSigned w128 (a *ℤ b) = fits_signed_from_abs w128 (a *ℤ b) (omega (arith, bound)) in
    rw (to_z-of_z w128 a a_fits, to_z-of_z w128 b b_fits) (to_z-of_z w128 (a *ℤ b) fits)

-- a sum of two products of ways within 10 ^ 12
pub sum_fits : (x y : ℤ) → unsigned_abs x ≤ 1000000000000000000000000 → unsigned_abs y ≤ 1000000000000000000000000 → FitsSigned w128 (to_z w128 (of_z w128 x) +ℤ to_z w128 (of_z w128 y))
sum_fits x y lx ly = omega (arith, ints)

pub sum_is : (x y : ℤ) → unsigned_abs x ≤ 1000000000000000000000000 → unsigned_abs y ≤ 1000000000000000000000000 → to_z w128 (of_z w128 (to_z w128 (of_z w128 x) +ℤ to_z w128 (of_z w128 y))) ≡ (x +ℤ y)
sum_is x y lx ly = omega (arith, ints)

-- a root of a square of a way
pub root_bound : (s n : ℕ) → s * s ≤ n → n ≤ 2000000000000000000000000 → s ≤ 2000000000000
root_bound s n low small = elim (cases_lt 2000000000000 s) [
  | inl more ↦ (let over : 2000000000000 ≤ s = omega (arith, more) in let sq : 2000000000000 * 2000000000000 ≤ s * s = mul-le-mul over over in let past : 2000000000001 * 2000000000000 ≤ s * s = mul-le-mul more over in absurd (omega (arith, past, low, small)))
  | inr enough ↦ enough
]

-- a product of ways is no larger than the sum of their parts' products
pub dot_bound : (w v : Place) (m n : ℕ) → IsWithin m w → IsWithin n v → unsigned_abs (dot w v) ≤ 2 * (m * n)
dot_bound w v m n near_w near_v =
    let a = product_bound w.across v.across m n near_w.0 near_v.0 in
    let l = product_bound w.along v.along m n near_w.1 near_v.1 in
    sum_bound (w.across *ℤ v.across) (w.along *ℤ v.along) (m * n) a l
  where
    sum_bound : (x y : ℤ) (k : ℕ) → unsigned_abs x ≤ k → unsigned_abs y ≤ k → unsigned_abs (x +ℤ y) ≤ 2 * k
    sum_bound x y k lx ly = omega (arith, ints)

-- the lesser and the greater of two stored numbers
pub lesser_is : (x y a b r : ℤ) → r ≡ int_min (to_z w128 (of_z w128 x)) (to_z w128 (of_z w128 y)) → x ≡ a → y ≡ b → unsigned_abs x ≤ 800000000000000000 → unsigned_abs y ≤ 800000000000000000 → r ≡ int_min a b
lesser_is x y a b r is is_x is_y near_x near_y = is ∙ rw (stored x (omega (arith, near_x)), stored y (omega (arith, near_y)), is_x, is_y) refl

pub greater_is : (x y a b r : ℤ) → r ≡ int_max (to_z w128 (of_z w128 x)) (to_z w128 (of_z w128 y)) → x ≡ a → y ≡ b → unsigned_abs x ≤ 800000000000000000 → unsigned_abs y ≤ 800000000000000000 → r ≡ int_max a b
greater_is x y a b r is is_x is_y near_x near_y = is ∙ rw (stored x (omega (arith, near_x)), stored y (omega (arith, near_y)), is_x, is_y) refl

-- how far ways between places reach
pub way_within : (p q : Place) → IsWithin 400000000 p → IsWithin 400000000 q → IsWithin 1000000000 (way p q)
way_within p q near_p near_q = (apart_by q.across p.across near_q.0 near_p.0, apart_by q.along p.along near_q.1 near_p.1)
  where
    apart_by : (x y : ℤ) → unsigned_abs x ≤ 400000000 → unsigned_abs y ≤ 400000000 → unsigned_abs (x -ℤ y) ≤ 1000000000
    apart_by x y near_x near_y = omega (arith, ints)

-- a way turned reaches as far
pub turned_within : (s : Side) (m : ℕ) (w : Place) → IsWithin m w → IsWithin m (turned s w)
turned_within Left m w near = (near.1, rw (size_neg w.across) (near.0))
  where
    size_neg : (x : ℤ) → unsigned_abs (neg_ℤ x) ≡ unsigned_abs x
    size_neg x = omega (arith, ints)
turned_within Right m w near = (rw (size_neg w.along) (near.1), near.0)
  where
    size_neg : (x : ℤ) → unsigned_abs (neg_ℤ x) ≡ unsigned_abs x
    size_neg x = omega (arith, ints)
