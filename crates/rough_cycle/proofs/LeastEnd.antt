-- The end of a pass is the least whole Z at which a contour that descends has X at most the pass's:
-- at a lesser Z the contour has X above the pass. For the law `an_end_is_the_least` (src/law.rt).
use Rattle.std.proofs.Common.{◌≡◌, ℕ, suc, ◌*◌, ◌/◌, ◌<◌, ◌≤◌, Bool, true, false, not, ◌&&◌, ◌||◌, List, [], ◌∷◌, ℤ, pos, negsuc, neg_ℤ, ◌-ℤ◌, ◌*ℤ◌, ◌≤ℤ◌, ◌<ℤ◌, refl, sym, subst, ◌∙◌, arith, ◌⊎◌, inl, inr, cond}
use Rattle.std.specs.Prelude.{int_lt, int_le}
use Rattle.std.specs.Ordering.{int_eq}
use Rattle.std.proofs.Math.IntN.{negsuc-*ℤ-pos}
use Rattle.std.proofs.Math.Nat.{mul-le-mul_right}
use Rattle.std.proofs.lemmas.Int.{ints}
use Rattle.std.proofs.lemmas.Nat.{div-add-mod', mod_below}
use Rattle.std.proofs.lemmas.Bool.{cases_lt}
use Rattle.std.proofs.lemmas.Bool.Decides.{Decides-int_eq}
use Rattle.nc_number.specs.declared.point.Point.{Point}
use Rattle.rough_cycle.specs.Contour.{Descends}
use Rattle.nc_number.specs.Distances.{distance}
use Rattle.rough_cycle.specs.Inside.{holds, is_below, is_below_line, some_holds, is_below_each, is_inside_from}
use Rattle.rough_cycle.specs.Roughing.{end_at}
use Rattle.nc_number.proofs.Integers.{le_is}
use Rattle.rough_cycle.proofs.Orders.{not_le_is, is_lt}
use Rattle.rough_cycle.proofs.Products.{part_below}
use Rattle.rough_cycle.proofs.NothingInside.{holds_between, behind_end, not_inside, held, end_is_low}

-- a negative number times a length above 0 is below a number from 0 on times a length
negative_below : (a w : ℤ) (d n : ℕ) → a <ℤ pos 0 → pos 0 ≤ℤ w → 0 < d → int_lt (a *ℤ pos d) (w *ℤ pos n) ≡ true
negative_below (pos m) w d n negative wide deep = absurd (omega (arith, ints))
negative_below (negsuc m) (negsuc v) d n negative wide deep = absurd (omega (arith, ints))
negative_below (negsuc m) (pos v) d n negative wide deep =
    let some : 1 * d ≤ suc m * d = mul-le-mul_right d (omega arith) in
    rw (negsuc-*ℤ-pos m d) (is_lt (neg_ℤ (pos (suc m * d))) (pos (v * n)) (omega (arith, ints)))

-- two numbers that differ have a distance above 0
apart_some : (a b : ℤ) → int_eq a b ≡ false → 0 < distance b a
apart_some a b differ = go (cases_lt 0 (distance b a))
  where
    go : (0 < distance b a) ⊎ (distance b a ≤ 0) → 0 < distance b a
    go (inl some) = some
    go (inr none) =
        let same : a ≡ b = omega (arith, ints) in
        let equal = (Decides-int_eq a b).1 same in
        absurd (let wrong : false ≡ true = sym differ ∙ equal in cc)

-- a point left of a segment along which X does not fall is below it (left: of smaller X)
below_left : (p q at : Point) → p.x ≤ℤ q.x → at.x <ℤ p.x → is_below p q at ≡ true
unfolding is_below
below_left p q at rises left = go (int_eq p.z q.z) refl
  where
    go : (b : Bool) → int_eq p.z q.z ≡ b → cond b (int_lt at.x p.x && int_lt at.x q.x) (is_below_line p q at) ≡ true
    go true e = rw (is_lt at.x p.x left, is_lt at.x q.x (omega (arith, ints))) refl
    go false e = negative_below (at.x -ℤ p.x) (q.x -ℤ p.x) (distance q.z p.z) (distance at.z p.z) (omega (arith, ints)) (omega (arith, ints)) (apart_some p.z q.z e)

-- if c is true, c or not b is true
or_true : (b c : Bool) → c ≡ true → (not b || c) ≡ true
or_true true c e = e
or_true false c e = refl

-- a point left of the first point of a contour that descends is below each segment
left_of_all : (p : Point) (points : List Point) (at : Point) → Descends p points → at.x <ℤ p.x → is_below_each p points at ≡ true
left_of_all p [] at falls left = refl
left_of_all p (q ∷ points) at (rises, falls, later) left =
    rw (or_true (holds p q at.z) (is_below p q at) (below_left p q at rises left), left_of_all q points at later (omega (arith, ints))) refl

-- if a share of l, rounded down, is below a, the product of l and k is below w times a
products_before : (a l k w : ℕ) → 0 < w → l * k / w < a → l * k < w * a
products_before a l k w some past =
    let split = div-add-mod' (l * k) w in
    let rest = mod_below (l * k) w some in
    let scaled : suc (l * k / w) * w ≤ a * w = mul-le-mul_right w past in
    omega (arith, split, rest, scaled)

-- a point before the place where a segment comes to its X is below that segment
below_before : (p q at : Point) → p.x ≤ℤ at.x → at.x <ℤ q.x → at.z <ℤ (p.z -ℤ pos (distance p.z q.z * distance at.x p.x / distance q.x p.x)) → q.z ≤ℤ at.z → is_below p q at ≡ true
unfolding is_below
below_before p q at above below before low = go (int_eq p.z q.z) refl
  where
    go : (b : Bool) → int_eq p.z q.z ≡ b → cond b (int_lt at.x p.x && int_lt at.x q.x) (is_below_line p q at) ≡ true
    go true e = let same = (Decides-int_eq p.z q.z).0 e in absurd (omega (arith, ints))
    go false e =
        let across : (at.x -ℤ p.x) ≡ pos (distance at.x p.x) = omega (arith, ints) in
        let width : (q.x -ℤ p.x) ≡ pos (distance q.x p.x) = omega (arith, ints) in
        let past : distance p.z q.z * distance at.x p.x / distance q.x p.x < distance at.z p.z = omega (arith, ints) in
        let products = products_before (distance at.z p.z) (distance p.z q.z) (distance at.x p.x) (distance q.x p.x) (omega (arith, ints)) past in
        let along : distance p.z q.z ≡ distance q.z p.z = omega (arith, ints) in
        let turned : distance p.z q.z * distance at.x p.x < distance q.x p.x * distance at.z p.z = products in
        let less : distance at.x p.x * distance q.z p.z < distance q.x p.x * distance at.z p.z = subst (λ l. distance at.x p.x * l < distance q.x p.x * distance at.z p.z) along (omega (arith, turned)) in
        rw (across, width) (is_lt (pos (distance at.x p.x * distance q.z p.z)) (pos (distance q.x p.x * distance at.z p.z)) (omega (arith, ints, less)))

-- on a contour that descends: if a point is not left of the first one, and its Z is less than the
-- end of a pass at its X, the point is below each segment that its Z lies in
pub least : (p : Point) (points : List Point) (at : Point) → Descends p points → p.x ≤ℤ at.x → at.z <ℤ end_at at.x p points → is_below_each p points at ≡ true
least p [] at falls above before = refl
least p (q ∷ points) at (rises, falls, later) above before = go (int_le q.x at.x) refl before (least q points at later)
  where
    end_q : end_at at.x q points ≤ℤ q.z
    end_q = end_is_low at.x q points later

    first : (t : Bool) → holds p q at.z ≡ t → (holds p q at.z ≡ true → is_below p q at ≡ true) → (not (holds p q at.z) || is_below p q at) ≡ true
    first true h below = or_true (holds p q at.z) (is_below p q at) (below h)
    first false h below = rw h refl

    go : (b : Bool) → int_le q.x at.x ≡ b → at.z <ℤ cond b (end_at at.x q points) (p.z -ℤ pos (distance p.z q.z * distance at.x p.x / distance q.x p.x))
        → (q.x ≤ℤ at.x → at.z <ℤ end_at at.x q points → is_below_each q points at ≡ true)
        → ((not (holds p q at.z) || is_below p q at) && is_below_each q points at) ≡ true
    go true t past rest =
        rw (first (holds p q at.z) refl (λ h. let z = held p q at.z falls h in absurd (omega (arith, ints, z.0, end_q, past))), rest (le_is q.x at.x t) past) refl
    go false t past rest =
        let less = not_le_is q.x at.x t in
        rw (first (holds p q at.z) refl (λ h. let z = held p q at.z falls h in below_before p q at above less past z.0), left_of_all q points at later less) refl

-- the Z of a pass's end lies in a segment of the contour, if that descends and the pass is not left
-- of its first point
pub reached : (x : ℤ) (p q : Point) (points : List Point) → Descends p (q ∷ points) → p.x ≤ℤ x → some_holds p (q ∷ points) (end_at x p (q ∷ points)) ≡ true
reached x p q [] (rises, falls, later) above = go (int_le q.x x) refl
  where
    go : (b : Bool) → int_le q.x x ≡ b → (holds p q (cond b q.z (p.z -ℤ pos (distance p.z q.z * distance x p.x / distance q.x p.x))) || false) ≡ true
    go true t = rw (holds_between p q q.z (omega (arith, ints)) falls) refl
    go false t =
        let less = not_le_is q.x x t in
        let part = part_below (distance p.z q.z) (distance x p.x) (distance q.x p.x) (omega (arith, ints)) (omega (arith, ints)) in
        rw (holds_between p q (p.z -ℤ pos (distance p.z q.z * distance x p.x / distance q.x p.x)) (omega (arith, ints)) (omega (arith, ints))) refl
reached x p q (r ∷ points) (rises, falls, later) above = go (int_le q.x x) refl (reached x q r points later)
  where
    or_second : (b c : Bool) → c ≡ true → (b || c) ≡ true
    or_second true c e = refl
    or_second false c e = e

    go : (b : Bool) → int_le q.x x ≡ b → (q.x ≤ℤ x → some_holds q (r ∷ points) (end_at x q (r ∷ points)) ≡ true)
        → (holds p q (cond b (end_at x q (r ∷ points)) (p.z -ℤ pos (distance p.z q.z * distance x p.x / distance q.x p.x))) || some_holds q (r ∷ points) (cond b (end_at x q (r ∷ points)) (p.z -ℤ pos (distance p.z q.z * distance x p.x / distance q.x p.x)))) ≡ true
    go true t rest = or_second _ _ (rest (le_is q.x x t))
    go false t rest =
        let less = not_le_is q.x x t in
        let part = part_below (distance p.z q.z) (distance x p.x) (distance q.x p.x) (omega (arith, ints)) (omega (arith, ints)) in
        rw (holds_between p q (p.z -ℤ pos (distance p.z q.z * distance x p.x / distance q.x p.x)) (omega (arith, ints)) (omega (arith, ints))) refl

-- a point at the end of a pass is not inside the contour, if that descends and the point is not
-- left of its first one
pub at_the_end : (first : Point) (points : List Point) (at : Point) → Descends first points → first.x ≤ℤ at.x → end_at at.x first points ≡ at.z → is_inside_from first points at ≡ false
at_the_end first points at falls above is =
    not_inside first points at (behind_end at.x first points at falls above (omega (arith, ints)) (subst (λ z. end_at at.x first points ≤ℤ z) is (omega (arith, ints))))
