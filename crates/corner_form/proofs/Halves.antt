-- Numbers of a corner that the code stores in 128 and 64 bits are exact. For `round_of`, `middle_of`,
-- `product` and `foot` (src/rounding.rt).
use Rattle.std.proofs.Common.{◌≡◌, ◌≤◌, ◌*◌, ◌%◌, ℕ, suc, ℤ, pos, negsuc, neg_ℤ, ◌+ℤ◌, ◌-ℤ◌, ◌*ℤ◌, unsigned_abs, arith, refl, ap, ◌∙◌, to_z, of_z, w64, Option, None, Bool, false, if◌then◌else◌}
use Rattle.std.specs.Prelude.{int_div, ◌==◌}
use Rattle.std.specs.Int.{w128}
use Rattle.std.proofs.lemmas.Int.{ints, quot-rem, to_z-of_z, fits_signed_from_abs, unsigned_abs-mul}
use Rattle.std.proofs.Math.Nat.{mul-le-mul}
use Rattle.std.proofs.lemmas.Bool.{ne_eqb}
use Rattle.plane_ways.specs.declared.place.Place.{Place}
use Rattle.plane_ways.specs.Steps.{near_place, nearest_stepped}
use Rattle.corner_form.specs.Shape.{ahead_of}
use Rattle.corner_form.specs.Cuts.{multiple, foot}
use Rattle.plane_ways.specs.Plane.{way, square}

-- half a way between stored numbers
pub half_is : (m s x : ℤ) → s ≡ x → unsigned_abs m ≤ 400000000 → unsigned_abs x ≤ 400000000
    → to_z w64 (of_z w64 (to_z w128 (of_z w128 (int_div (to_z w128 (of_z w128 (to_z w128 (of_z w128 m) -ℤ to_z w128 (of_z w128 s)))) (pos 2))))) ≡ int_div (m -ℤ x) (pos 2)
half_is m s x is near_m near_x =
    let whole : to_z w128 (of_z w128 (to_z w128 (of_z w128 m) -ℤ to_z w128 (of_z w128 x))) ≡ (m -ℤ x) = omega (arith, ints) in
    rw (is, whole) (stays (m -ℤ x) (far m x near_m near_x))
  where
    far : (m x : ℤ) → unsigned_abs m ≤ 400000000 → unsigned_abs x ≤ 400000000 → unsigned_abs (m -ℤ x) ≤ 800000000
    far m x near_m near_x = omega (arith, ints)

    stays : (y : ℤ) → unsigned_abs y ≤ 800000000 → to_z w64 (of_z w64 (to_z w128 (of_z w128 (int_div y (pos 2))))) ≡ int_div y (pos 2)
    stays y near = omega (arith, ints)

-- from x half the way to m, twice, reaches no farther than both
up : (h x m : ℤ) (n k : ℕ) → (h *ℤ pos 2 +ℤ pos k) ≡ pos n → k ≤ n → pos n ≡ (m -ℤ x) → unsigned_abs m ≤ 400000000 → unsigned_abs x ≤ 400000000 → unsigned_abs (x +ℤ pos 2 *ℤ h) ≤ 400000000
up h x m n k parts rest way near_m near_x = omega (arith, ints, parts, way)

down : (h x m : ℤ) (n k : ℕ) → (h *ℤ pos 2 +ℤ neg_ℤ (pos k)) ≡ neg_ℤ (pos n) → k ≤ n → neg_ℤ (pos n) ≡ (m -ℤ x) → unsigned_abs m ≤ 400000000 → unsigned_abs x ≤ 400000000 → unsigned_abs (x +ℤ pos 2 *ℤ h) ≤ 400000000
down h x m n k parts rest way near_m near_x = omega (arith, ints, parts, way)

pub halves_near : (m x : ℤ) → unsigned_abs m ≤ 400000000 → unsigned_abs x ≤ 400000000 → unsigned_abs (x +ℤ pos 2 *ℤ int_div (m -ℤ x) (pos 2)) ≤ 400000000
halves_near m x near_m near_x = go (m -ℤ x) refl
  where
    go : (y : ℤ) → y ≡ (m -ℤ x) → unsigned_abs (x +ℤ pos 2 *ℤ int_div y (pos 2)) ≤ 400000000
    go (pos n) way = up (int_div (pos n) (pos 2)) x m n (n % 2) (quot-rem (pos n) (pos 2)) (omega arith) way near_m near_x
    go (negsuc n) way = down (int_div (negsuc n) (pos 2)) x m (suc n) (suc n % 2) (quot-rem (negsuc n) (pos 2)) (omega arith) way near_m near_x

-- a number of 64 bits that fits is stored as it is
pub short_is : (x i : ℤ) → unsigned_abs x ≤ 400000000 → unsigned_abs (x +ℤ pos 2 *ℤ i) ≤ 400000000 → to_z w64 (of_z w64 i) ≡ i
short_is x i near_x near = omega (arith, ints)

-- a stored number and twice another
pub sum_at : (s f x i : ℤ) → s ≡ x → f ≡ i → unsigned_abs x ≤ 400000000 → unsigned_abs (x +ℤ pos 2 *ℤ i) ≤ 400000000
    → to_z w128 (of_z w128 (to_z w128 (of_z w128 s) +ℤ to_z w128 (of_z w128 (pos 2 *ℤ to_z w128 (of_z w128 f))))) ≡ (x +ℤ pos 2 *ℤ i)
sum_at s f x i is_s is_f near_x near = rw (is_s, is_f) (go x i near_x near)
  where
    go : (x i : ℤ) → unsigned_abs x ≤ 400000000 → unsigned_abs (x +ℤ pos 2 *ℤ i) ≤ 400000000
        → to_z w128 (of_z w128 (to_z w128 (of_z w128 x) +ℤ to_z w128 (of_z w128 (pos 2 *ℤ to_z w128 (of_z w128 i))))) ≡ (x +ℤ pos 2 *ℤ i)
    go x i near_x near = omega (arith, ints)

-- the product of a height and a length
pub product_bound : (z n : ℤ) → unsigned_abs z ≤ 2000000000000000000 → unsigned_abs n ≤ 1000000000 → unsigned_abs (z *ℤ n) ≤ 2000000000000000000000000000
product_bound z n near_z near_n = rw (unsigned_abs-mul z n) (let m = mul-le-mul near_z near_n in omega (arith, m))

pub product_is : (z n : ℤ) → unsigned_abs z ≤ 2000000000000000000 → unsigned_abs n ≤ 1000000000
    → to_z w128 (of_z w128 (to_z w128 (of_z w128 z) *ℤ to_z w128 (of_z w128 n))) ≡ (z *ℤ n)
product_is z n near_z near_n =
    let is_z : to_z w128 (of_z w128 z) ≡ z = to_z-of_z w128 z (fits_signed_from_abs w128 z (omega (arith, near_z))) in
    let is_n : to_z w128 (of_z w128 n) ≡ n = to_z-of_z w128 n (fits_signed_from_abs w128 n (omega (arith, near_n))) in
    let near = product_bound z n near_z near_n in
    rw (is_z, is_n) (to_z-of_z w128 (z *ℤ n) (fits_signed_from_abs w128 (z *ℤ n) (omega (arith, near))))

-- a line with a length has a foot
pub some_foot : (p q : Place) (x : Option Place) → (square (way p q) == 0) ≡ false → x ≡ (if square (way p q) == 0 then None else x)
some_foot p q x e = rw e refl

-- the place that the code steps to is the foot
pub foot_is : (p q at line : Place) (size : ℕ) (z : ℤ) (r : Option Place) → line ≡ way p q → size ≡ square line → z ≡ ahead_of p q at → (size ≡ 0 → ⊥)
    → r ≡ near_place (nearest_stepped p (multiple z line) size) → r ≡ foot p q at
foot_is p q at line size z r line_is size_is z_is some is =
    let w : size ≡ square (way p q) = size_is ∙ ap square line_is in
    let test : (square (way p q) == 0) ≡ false = ne_eqb (square (way p q)) 0 (λ e. some (w ∙ e)) in
    let by_z = ap (λ (t : ℤ). near_place (nearest_stepped p (multiple t line) size)) z_is in
    let by_line = ap (λ (t : Place). near_place (nearest_stepped p (multiple (ahead_of p q at) t) size)) line_is in
    let by_size = ap (λ (t : ℕ). near_place (nearest_stepped p (multiple (ahead_of p q at) (way p q)) t)) w in
    is ∙ by_z ∙ by_line ∙ by_size
    ∙ some_foot p q (near_place (nearest_stepped p (multiple (ahead_of p q at) (way p q)) (square (way p q)))) test
