-- Directions have a length, and places stepped to fit 128 bits. For `direction`, `length` and
-- `stepped` (src/steps.rt).
use Rattle.std.proofs.Common.{◌≡◌, ℕ, ◌+◌, ◌*◌, ◌/◌, ◌%◌, ◌<◌, ◌≤◌, max, false, ◌&&◌, ℤ, pos, ◌+ℤ◌, ◌-ℤ◌, ◌*ℤ◌, ap, arith, ◌∙◌, sym, subst, unsigned_abs, to_z, of_z, FitsSigned, inl, inr}
use Rattle.std.specs.Int.{w128}
use Rattle.std.specs.Ordering.{int_eq}
use Rattle.std.proofs.lemmas.Int.{ints, to_z-of_z, fits_signed_from_abs, unsigned_abs-mul}
use Rattle.std.proofs.lemmas.Bool.{cases_lt}
use Rattle.std.proofs.Math.Nat.{mul-le-mul, mul-le-mul_left}
use Rattle.nc_number.specs.Arithmetic.{square_root}
use Rattle.nc_number.proofs.Roots.{root_next}
use Rattle.plane_ways.specs.declared.place.Place.{Place}
use Rattle.plane_ways.specs.Plane.{way, dot, square, times, plus, turned, IsWithin}
use Rattle.plane_ways.specs.declared.place.Side.{Side}
use Rattle.plane_ways.specs.Steps.{is_same, IsDirection, from_zero, stepped, nearest_part, nearest_stepped}
use Rattle.plane_ways.proofs.Stored.{same_place, way_within, turned_within, dot_bound}

-- the root of a number that is not 0 is not 0
pub root_some : (n : ℕ) → 0 < n → 0 < square_root n
root_some n some = let next = root_next n in elim (cases_lt 0 (square_root n)) [
  | inl more ↦ more
  | inr none ↦ (let none_is : square_root n ≡ 0 = omega (arith, none) in let wrong : n < (0 + 1) * (0 + 1) = rw none_is at next in absurd (omega (arith, wrong, some)))
]

-- places that differ have a way that is not 0
pub way_some : (p q : Place) → is_same p q ≡ false → 0 < max (unsigned_abs (way p q).across) (unsigned_abs (way p q).along)
way_some p q e = go p.across q.across p.along q.along e
  where
    go : (a b c d : ℤ) → (int_eq a b && int_eq c d) ≡ false → 0 < max (unsigned_abs (b -ℤ a)) (unsigned_abs (d -ℤ c))
    go a b c d e = grind (arith, ints)

-- k times a way that reaches at most m, where k is how often m goes into 10 ^ 12
share_within : (k m : ℕ) (x : ℤ) → k * m ≤ 1000000000000 → unsigned_abs x ≤ m → unsigned_abs (pos k *ℤ x) ≤ 1000000000000
share_within k m x fits near = rw (unsigned_abs-mul (pos k) x) (let s : k * unsigned_abs x ≤ k * m = mul-le-mul_left k near in omega (arith, s, fits))

-- how often a length goes into 10 ^ 12
pub goes_into : (m : ℕ) → 0 < m → m ≤ 1000000000 → (1000000000000 / m * m ≤ 1000000000000) × (0 < 1000000000000 / m)
goes_into m some small = (
  omega arith,
  elim (cases_lt 0 (1000000000000 / m)) [
    | inl more ↦ more
    | inr none ↦ (let none_is : 1000000000000 / m ≡ 0 = omega (arith, none) in
        let split : m * (1000000000000 / m) + 1000000000000 % m ≡ 1000000000000 = omega arith in
        let rest : 1000000000000 % m < m = omega (arith, some) in
        let wrong : m * 0 + 1000000000000 % m ≡ 1000000000000 = rw none_is at split in
        absurd (omega (arith, wrong, rest, small)))
  ],
)

-- a way that is not 0, taken so often, is a direction
pub direction_is : (p q : Place) → IsWithin 400000000 p → IsWithin 400000000 q → is_same p q ≡ false
    → IsDirection (times (1000000000000 / max (unsigned_abs (way p q).across) (unsigned_abs (way p q).along)) (way p q))
direction_is p q near_p near_q differ =
    let a : ℤ = (way p q).across in
    let l : ℤ = (way p q).along in
    let m : ℕ = max (unsigned_abs (way p q).across) (unsigned_abs (way p q).along) in
    let some = way_some p q differ in
    let near = way_within p q near_p near_q in
    let small : max (unsigned_abs (way p q).across) (unsigned_abs (way p q).along) ≤ 1000000000 = omega (arith, near.0, near.1) in
    let often = goes_into (max (unsigned_abs (way p q).across) (unsigned_abs (way p q).along)) some small in
    let k : ℕ = 1000000000000 / max (unsigned_abs (way p q).across) (unsigned_abs (way p q).along) in (
      (share_within k m a often.0 (omega arith), share_within k m l often.0 (omega arith)),
      squares_some k a l often.1 some,
    )
  where
    squares_some : (k : ℕ) (a l : ℤ) → 0 < k → 0 < max (unsigned_abs a) (unsigned_abs l) → 0 < square (times k (record { across = a; along = l }))
    squares_some k a l often some = rw (unsigned_abs-mul (pos k) a, unsigned_abs-mul (pos k) l) (elim (cases_lt 0 (unsigned_abs a)) [
      | inl more ↦ (let s : 1 * 1 ≤ k * unsigned_abs a = mul-le-mul often more in let t : 1 * 1 ≤ k * unsigned_abs a * (k * unsigned_abs a) = mul-le-mul s s in omega (arith, t))
      | inr none ↦ (let more : 0 < unsigned_abs l = omega (arith, none, some) in let s : 1 * 1 ≤ k * unsigned_abs l = mul-le-mul often more in let t : 1 * 1 ≤ k * unsigned_abs l * (k * unsigned_abs l) = mul-le-mul s s in omega (arith, t))
    ])

-- a step's parts are stored as they are
stored_far : (z : ℤ) → unsigned_abs z ≤ 1000000000000000000000000000000000 → to_z w128 (of_z w128 z) ≡ z
stored_far z near = to_z-of_z w128 z (fits_signed_from_abs w128 z (omega arith))

sum_is : (x y z : ℤ) → unsigned_abs x ≤ 400000000 → unsigned_abs y ≤ 100000000000000000000000000000000 → y ≡ z → to_z w128 (of_z w128 (to_z w128 (of_z w128 x) +ℤ to_z w128 (of_z w128 y))) ≡ (x +ℤ z)
sum_is x y z near_x near_y is = subst_last is
  where
    subst_last : y ≡ z → to_z w128 (of_z w128 (to_z w128 (of_z w128 x) +ℤ to_z w128 (of_z w128 y))) ≡ (x +ℤ z)
    subst_last is = let base : to_z w128 (of_z w128 (to_z w128 (of_z w128 x) +ℤ to_z w128 (of_z w128 y))) ≡ (x +ℤ y) = omega (arith, ints) in base ∙ ap (λ t. x +ℤ t) is

twice_is : (x y z : ℤ) → unsigned_abs x ≤ 400000000 → unsigned_abs y ≤ 100000000000000000000000000000000 → y ≡ z → to_z w128 (of_z w128 (to_z w128 (of_z w128 x) +ℤ to_z w128 (of_z w128 (pos 2 *ℤ to_z w128 (of_z w128 y))))) ≡ (x +ℤ pos 2 *ℤ z)
twice_is x y z near_x near_y is =
    let base : to_z w128 (of_z w128 (to_z w128 (of_z w128 x) +ℤ to_z w128 (of_z w128 (pos 2 *ℤ to_z w128 (of_z w128 y))))) ≡ (x +ℤ pos 2 *ℤ y) = omega (arith, ints) in base ∙ ap (λ t. x +ℤ pos 2 *ℤ t) is

-- where a step leads
pub stepped_is : (p by : Place) (d : ℕ) (a l : ℤ) → IsWithin 400000000 p → IsWithin 100000000000000000000000000000000 by
    → a ≡ from_zero (to_z w128 (of_z w128 by.across)) d → l ≡ from_zero (to_z w128 (of_z w128 by.along)) (2 * d)
    → unsigned_abs a ≤ 100000000000000000000000000000000 → unsigned_abs l ≤ 100000000000000000000000000000000
    → ◌≡◌ {A = Place} (record { across = to_z w128 (of_z w128 (to_z w128 (of_z w128 p.across) +ℤ to_z w128 (of_z w128 a))); along = to_z w128 (of_z w128 (to_z w128 (of_z w128 p.along) +ℤ to_z w128 (of_z w128 (pos 2 *ℤ to_z w128 (of_z w128 l))))) }) (stepped p by d)
stepped_is p by d a l near_p near_by is_a is_l near_a near_l =
    let across : a ≡ from_zero by.across d = is_a ∙ ap (λ t. from_zero t d) (stored_far by.across (omega (arith, near_by.0))) in
    let along : l ≡ from_zero by.along (2 * d) = is_l ∙ ap (λ t. from_zero t (2 * d)) (stored_far by.along (omega (arith, near_by.1))) in
    same_place _ _ _ _ (sum_is p.across a (from_zero by.across d) near_p.0 near_a across) (twice_is p.along l (from_zero by.along (2 * d)) near_p.1 near_l along)

-- how far multiples, sums and ways between ways reach
pub times_within : (k m n : ℕ) (w : Place) → n ≤ k → IsWithin m w → IsWithin (k * m) (times n w)
times_within k m n w le near = (one n w.across le near.0, one n w.along le near.1)
  where
    one : (n : ℕ) (x : ℤ) → n ≤ k → unsigned_abs x ≤ m → unsigned_abs (pos n *ℤ x) ≤ k * m
    one n x le near = rw (unsigned_abs-mul (pos n) x) (mul-le-mul le near)

pub plus_within : (m n : ℕ) (p q : Place) → IsWithin m p → IsWithin n q → IsWithin (m + n) (plus p q)
plus_within m n p q near_p near_q = (one p.across q.across near_p.0 near_q.0, one p.along q.along near_p.1 near_q.1)
  where
    one : (x y : ℤ) → unsigned_abs x ≤ m → unsigned_abs y ≤ n → unsigned_abs (x +ℤ y) ≤ m + n
    one x y near_x near_y = omega (arith, ints)

pub way_reaches : (m n : ℕ) (p q : Place) → IsWithin m p → IsWithin n q → IsWithin (m + n) (way p q)
way_reaches m n p q near_p near_q = (one p.across q.across near_p.0 near_q.0, one p.along q.along near_p.1 near_q.1)
  where
    one : (x y : ℤ) → unsigned_abs x ≤ m → unsigned_abs y ≤ n → unsigned_abs (y -ℤ x) ≤ m + n
    one x y near_x near_y = omega (arith, ints)

-- what is within a bound is within a greater one
pub wider : (m n : ℕ) (w : Place) → m ≤ n → IsWithin m w → IsWithin n w
wider m n w le near = (omega (arith, le, near.0), omega (arith, le, near.1))

-- a direction turned, and a length times a direction
pub side_within : (s : Side) (d r : Place) → IsDirection d → r ≡ turned s d → IsWithin 1000000000000 r
side_within s d r is turn = subst (IsWithin 1000000000000) (sym turn) (turned_within s 1000000000000 d is.0)

pub multiple_within : (n : ℕ) (w r : Place) → n ≤ 2000000000000 → IsWithin 1000000000000 w → r ≡ times n w → IsWithin 2000000000000000000000000 r
multiple_within n w r le near is = subst (IsWithin 2000000000000000000000000) (sym is) (times_within 2000000000000 1000000000000 n w le near)

-- the sum of a product of lengths and one of ways
pub parts_are : (a b : ℤ) → unsigned_abs a ≤ 4000000000000000000000000 → unsigned_abs b ≤ 2000000000000000000000000
    → to_z w128 (of_z w128 (to_z w128 (of_z w128 a) +ℤ to_z w128 (of_z w128 b))) ≡ (a +ℤ b)
parts_are a b near_a near_b = omega (arith, ints)

pub parts_small : (a b : ℤ) → unsigned_abs a ≤ 4000000000000000000000000 → unsigned_abs b ≤ 2000000000000000000000000 → unsigned_abs (a +ℤ b) ≤ 10000000000000000000000000
parts_small a b near_a near_b = omega (arith, ints)

pub parts_fit : (a b : ℤ) → unsigned_abs a ≤ 4000000000000000000000000 → unsigned_abs b ≤ 2000000000000000000000000
    → FitsSigned w128 (to_z w128 (of_z w128 a) +ℤ to_z w128 (of_z w128 b))
parts_fit a b near_a near_b = omega (arith, ints)

-- the product of two directions
pub dot_small : (d e : Place) → IsDirection d → IsDirection e → unsigned_abs (dot d e) ≤ 2000000000000000000000000
dot_small d e is_d is_e = dot_bound d e 1000000000000 1000000000000 is_d.0 is_e.0

-- where a step to the nearest leads
twice_near : (x y z : ℤ) → unsigned_abs x ≤ 400000000 → unsigned_abs y ≤ 100000000000000000000000000000001 → y ≡ z → to_z w128 (of_z w128 (to_z w128 (of_z w128 x) +ℤ to_z w128 (of_z w128 (pos 2 *ℤ to_z w128 (of_z w128 y))))) ≡ (x +ℤ pos 2 *ℤ z)
twice_near x y z near_x near_y is =
    let base : to_z w128 (of_z w128 (to_z w128 (of_z w128 x) +ℤ to_z w128 (of_z w128 (pos 2 *ℤ to_z w128 (of_z w128 y))))) ≡ (x +ℤ pos 2 *ℤ y) = omega (arith, ints) in base ∙ ap (λ t. x +ℤ pos 2 *ℤ t) is

pub nearest_stepped_is : (p by : Place) (d : ℕ) (a l : ℤ) → IsWithin 400000000 p → IsWithin 100000000000000000000000000000000 by
    → a ≡ nearest_part (to_z w128 (of_z w128 by.across)) (2 * d) → l ≡ nearest_part (to_z w128 (of_z w128 by.along)) (2 * d)
    → unsigned_abs a ≤ 100000000000000000000000000000001 → unsigned_abs l ≤ 100000000000000000000000000000001
    → ◌≡◌ {A = Place} (record { across = to_z w128 (of_z w128 (to_z w128 (of_z w128 p.across) +ℤ to_z w128 (of_z w128 (pos 2 *ℤ to_z w128 (of_z w128 a))))); along = to_z w128 (of_z w128 (to_z w128 (of_z w128 p.along) +ℤ to_z w128 (of_z w128 (pos 2 *ℤ to_z w128 (of_z w128 l))))) }) (nearest_stepped p by d)
nearest_stepped_is p by d a l near_p near_by is_a is_l near_a near_l =
    let across : a ≡ nearest_part by.across (2 * d) = is_a ∙ ap (λ t. nearest_part t (2 * d)) (stored_far by.across (omega (arith, near_by.0))) in
    let along : l ≡ nearest_part by.along (2 * d) = is_l ∙ ap (λ t. nearest_part t (2 * d)) (stored_far by.along (omega (arith, near_by.1))) in
    same_place _ _ _ _ (twice_near p.across a (nearest_part by.across (2 * d)) near_p.0 near_a across) (twice_near p.along l (nearest_part by.along (2 * d)) near_p.1 near_l along)
