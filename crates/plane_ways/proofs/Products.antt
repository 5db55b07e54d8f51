-- Products of ways of the plane: turned, with themselves, and of multiples.
use Rattle.std.proofs.Common.{◌≡◌, ℕ, ◌*◌, ◌+◌, ℤ, pos, negsuc, neg_ℤ, ◌+ℤ◌, ◌*ℤ◌, refl, ◌∙◌, ap, arith, unsigned_abs}
use Rattle.std.proofs.lemmas.Int.{ints, unsigned_abs-mul}
use Rattle.std.proofs.Math.IntN.{*ℤ_comm}
use Rattle.plane_ways.specs.declared.place.Place.{Place}
use Rattle.plane_ways.specs.declared.place.Side.{Side}
use Rattle.plane_ways.specs.declared.place.Side.TheVariants.{Left, Right}
use Rattle.plane_ways.specs.Plane.{dot, square, turned, times}
use Rattle.plane_ways.proofs.Rings.{times_neg}
use Rattle.plane_ways.proofs.Strips.{dot_times}

-- products of ways, turned and not
pub dot_comm : (w v : Place) → dot w v ≡ dot v w
dot_comm w v = let a = *ℤ_comm w.across v.across in let l = *ℤ_comm w.along v.along in rw (a, l) refl

-- a number's opposite in front
pub neg_times : (x y : ℤ) → (neg_ℤ x *ℤ y) ≡ neg_ℤ (x *ℤ y)
neg_times x y = *ℤ_comm (neg_ℤ x) y ∙ times_neg y x ∙ ap neg_ℤ (*ℤ_comm y x)

pub neg_neg : (x y : ℤ) → (neg_ℤ x *ℤ neg_ℤ y) ≡ (x *ℤ y)
neg_neg x y = neg_times x (neg_ℤ y) ∙ ap neg_ℤ (times_neg x y) ∙ twice (x *ℤ y)
  where
    twice : (z : ℤ) → neg_ℤ (neg_ℤ z) ≡ z
    twice z = omega (arith, ints)

-- two ways turned alike have the same product
pub both_turned : (s : Side) (w v : Place) → dot (turned s w) (turned s v) ≡ dot w v
both_turned Left w v = let n = neg_neg w.across v.across in go (w.across *ℤ v.across) (w.along *ℤ v.along) (neg_ℤ w.across *ℤ neg_ℤ v.across) n
  where
    go : (x y z : ℤ) → z ≡ x → (y +ℤ z) ≡ (x +ℤ y)
    go x y z e = omega (arith, ints)
both_turned Right w v = let n = neg_neg w.along v.along in go (w.across *ℤ v.across) (w.along *ℤ v.along) (neg_ℤ w.along *ℤ neg_ℤ v.along) n
  where
    go : (x y z : ℤ) → z ≡ y → (z +ℤ x) ≡ (x +ℤ y)
    go x y z e = omega (arith, ints)

-- a way turned to the other way, and the other turned to it
pub turned_back : (s : Side) (w v : Place) → dot (turned s v) w ≡ neg_ℤ (dot (turned s w) v)
turned_back Left w v =
    let a = neg_times w.across v.along in
    let b = neg_times v.across w.along in
    let c = *ℤ_comm v.along w.across in
    let d = *ℤ_comm v.across w.along in
    go (v.along *ℤ w.across) (neg_ℤ v.across *ℤ w.along) (w.along *ℤ v.across) (neg_ℤ w.across *ℤ v.along) (w.across *ℤ v.along) (v.across *ℤ w.along) a b c d
  where
    go : (p q r s x y : ℤ) → s ≡ neg_ℤ x → q ≡ neg_ℤ y → p ≡ x → y ≡ r → (p +ℤ q) ≡ neg_ℤ (r +ℤ s)
    go p q r s x y a b c d = omega (arith, ints)
turned_back Right w v =
    let a = neg_times w.along v.across in
    let b = neg_times v.along w.across in
    let c = *ℤ_comm v.across w.along in
    let d = *ℤ_comm v.along w.across in
    go (neg_ℤ v.along *ℤ w.across) (v.across *ℤ w.along) (neg_ℤ w.along *ℤ v.across) (w.across *ℤ v.along) (w.along *ℤ v.across) (v.along *ℤ w.across) a b c d
  where
    go : (p q r s x y : ℤ) → r ≡ neg_ℤ x → p ≡ neg_ℤ y → q ≡ x → y ≡ s → (p +ℤ q) ≡ neg_ℤ (r +ℤ s)
    go p q r s x y a b c d = omega (arith, ints)

-- a way turned goes nowhere along itself
pub across_itself : (s : Side) (w : Place) → dot (turned s w) w ≡ pos 0
across_itself s w = let e = turned_back s w w in go (dot (turned s w) w) e
  where
    go : (x : ℤ) → x ≡ neg_ℤ x → x ≡ pos 0
    go x e = omega (arith, ints)

-- the product of a way with itself
pub own_square : (w : Place) → dot w w ≡ pos (square w)
own_square w = let a = one w.across in let l = one w.along in rw (a, l) refl
  where
    one : (x : ℤ) → (x *ℤ x) ≡ pos (unsigned_abs x * unsigned_abs x)
    one (pos n) = omega (arith, ints)
    one (negsuc n) = omega (arith, ints)

pub own_turned : (s : Side) (d : Place) → dot (turned s d) (turned s d) ≡ pos (square d)
own_turned s d = both_turned s d d ∙ own_square d

pub turned_times : (s : Side) (k : ℕ) (w : Place) → turned s (times k w) ≡ times k (turned s w)
turned_times Left k w = let n = times_neg (pos k) w.across in rw n refl
turned_times Right k w = let n = times_neg (pos k) w.along in rw n refl

pub dot_times_first : (w v : Place) (k : ℕ) → dot (times k w) v ≡ (pos k *ℤ dot w v)
dot_times_first w v k = dot_comm (times k w) v ∙ dot_times v w k ∙ ap (λ t. pos k *ℤ t) (dot_comm v w)

pub square_times : (k : ℕ) (w : Place) → square (times k w) ≡ k * k * square w
square_times k w = rw (unsigned_abs-mul (pos k) w.across, unsigned_abs-mul (pos k) w.along) (go k (unsigned_abs w.across) (unsigned_abs w.along))
  where
    go : (k a l : ℕ) → k * a * (k * a) + k * l * (k * l) ≡ k * k * (a * a + l * l)
    go k a l = omega arith
