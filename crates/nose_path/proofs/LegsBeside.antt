-- A leg whose ends are beside a line is beside it all along, and each leg of a path is.
use Rattle.std.proofs.Common.{◌≡◌, ℕ, ◌+◌, ◌-◌, ◌*◌, ◌≤◌, true, ℤ, pos, ◌+ℤ◌, ◌-ℤ◌, ◌*ℤ◌, ◌≤ℤ◌, ◌<ℤ◌, refl, sym, subst, ◌∙◌, ap, arith, unsigned_abs, inl, inr}
use Rattle.std.proofs.lemmas.Int.{ints}
use Rattle.std.proofs.lemmas.Bool.{cases_lt, leb-true}
use Rattle.std.proofs.Math.Nat.{mul-le-mul, mul-le-mul_left}
use Rattle.nc_number.proofs.Bools.{both}
use Rattle.nc_number.proofs.Integers.{lt_is}
use Rattle.plane_ways.specs.declared.place.Place.{Place}
use Rattle.plane_ways.specs.declared.place.Side.{Side}
use Rattle.plane_ways.specs.declared.place.Line.{Line}
use Rattle.nose_path.specs.declared.nose.TheConstants.{OFF}
use Rattle.plane_ways.specs.Plane.{way, dot, square, turned, times, part}
use Rattle.nose_path.specs.Beside.{height, is_beside, keeps_beside, IsBeside}
use Rattle.plane_ways.proofs.Rings.{times_less}
use Rattle.plane_ways.proofs.Strips.{dot_way, dot_times, dot_part}

-- the height of a part of a line is so many times those of its ends
height_of_part : (n p a b : Place) (j k A B : ℕ) → dot n (way p a) ≡ pos A → dot n (way p b) ≡ pos B
    → dot n (way (times (j + k) p) (part j k a b)) ≡ pos (j * A + k * B)
height_of_part n p a b j k A B is_a is_b =
    let at_a : (dot n a -ℤ dot n p) ≡ pos A = sym (dot_way n p a) ∙ is_a in
    let at_b : (dot n b -ℤ dot n p) ≡ pos B = sym (dot_way n p b) ∙ is_b in
    dot_way n (times (j + k) p) (part j k a b) ∙ rw (dot_times n p (j + k), dot_part n a b j k) (shares (dot n p) (dot n a) (dot n b) at_a at_b)
  where
    shares : (x y z : ℤ) → (y -ℤ x) ≡ pos A → (z -ℤ x) ≡ pos B → ((pos j *ℤ y +ℤ pos k *ℤ z) -ℤ (pos (j + k) *ℤ x)) ≡ pos (j * A + k * B)
    shares x y z is_y is_z =
        let by_j = ap (λ t. pos j *ℤ t) is_y in
        let by_k = ap (λ t. pos k *ℤ t) is_z in
        let split_j = times_less (pos j) y x in
        let split_k = times_less (pos k) z x in
        omega (arith, ints, by_j, by_k, split_j, split_k)

-- the least of two squares bounds that of any share of them, and so does the greatest
share_least : (j k A B x : ℕ) → x ≤ A * A → x ≤ B * B → (j + k) * (j + k) * x ≤ (j * A + k * B) * (j * A + k * B)
share_least j k A B x to_a to_b = elim (cases_lt A B) [
  | inl less ↦ go A (omega (arith, less)) to_a refl
  | inr more ↦ (let r = swap k j B A x more to_b in omega (arith, r))
]
  where
    swap : (j k A B x : ℕ) → A ≤ B → x ≤ A * A → (j + k) * (j + k) * x ≤ (j * A + k * B) * (j * A + k * B)
    swap j k A B x le to_a =
        let s : k * A ≤ k * B = mul-le-mul_left k le in
        let t : (j + k) * A ≤ j * A + k * B = omega (arith, s) in
        let u : (j + k) * A * ((j + k) * A) ≤ (j * A + k * B) * (j * A + k * B) = mul-le-mul t t in
        let v : (j + k) * (j + k) * x ≤ (j + k) * (j + k) * (A * A) = mul-le-mul_left ((j + k) * (j + k)) to_a in
        omega (arith, u, v)

    go : (C : ℕ) → C ≤ B → x ≤ C * C → C ≡ A → (j + k) * (j + k) * x ≤ (j * A + k * B) * (j * A + k * B)
    go C le to is = swap j k A B x (subst (λ t. t ≤ B) is le) (subst (λ t. x ≤ t * t) is to)

share_most : (j k A B x : ℕ) → A * A ≤ x → B * B ≤ x → (j * A + k * B) * (j * A + k * B) ≤ (j + k) * (j + k) * x
share_most j k A B x to_a to_b = elim (cases_lt A B) [
  | inl less ↦ (let r = swap k j B A x (omega (arith, less)) to_b in omega (arith, r))
  | inr more ↦ (let r = swap j k A B x more to_a in omega (arith, r))
]
  where
    swap : (j k A B x : ℕ) → B ≤ A → A * A ≤ x → (j * A + k * B) * (j * A + k * B) ≤ (j + k) * (j + k) * x
    swap j k A B x le to_a =
        let s : k * B ≤ k * A = mul-le-mul_left k le in
        let t : j * A + k * B ≤ (j + k) * A = omega (arith, s) in
        let u : (j * A + k * B) * (j * A + k * B) ≤ (j + k) * A * ((j + k) * A) = mul-le-mul t t in
        let v : (j + k) * (j + k) * (A * A) ≤ (j + k) * (j + k) * x = mul-le-mul_left ((j + k) * (j + k)) to_a in
        omega (arith, u, v)

-- what the test of a place says
record Stands (s : Side) (r : ℕ) (p q at : Place) : Type 0 where
  high : height s p q at ≡ pos (unsigned_abs (height s p q at))
  far : (r - OFF) * (r - OFF) * square (way p q) ≤ unsigned_abs (height s p q at) * unsigned_abs (height s p q at)
  near : unsigned_abs (height s p q at) * unsigned_abs (height s p q at) ≤ (r + OFF) * (r + OFF) * square (way p q)

stands : (s : Side) (r : ℕ) (p q at : Place) → is_beside s r p q at ≡ true → Stands s r p q at
unfolding is_beside
stands s r p q at e =
    let last = both _ _ e in
    let first = both _ _ last.0 in
    record {
      high = size_is (height s p q at) (lt_is (pos 0) (height s p q at) first.0);
      far = leb-true _ _ first.1;
      near = leb-true _ _ last.1;
    }
  where
    size_is : (x : ℤ) → pos 0 <ℤ x → x ≡ pos (unsigned_abs x)
    size_is x h = omega (arith, ints)

-- a leg that keeps beside a line is beside it all along
pub leg_is_beside : (s : Side) (r : ℕ) (p q : Place) (leg : Line) → keeps_beside s r p q leg ≡ true → IsBeside s r p q leg
leg_is_beside s r p q leg e =
    let first = both _ _ (both _ _ e).0 in
    let a = stands s r p q leg.from first.0 in
    let b = stands s r p q leg.to first.1 in
    let n = turned s (way p q) in
    let A = unsigned_abs (height s p q leg.from) in
    let B = unsigned_abs (height s p q leg.to) in
    record {
      side = λ j k. rw (height_of_part n p leg.from leg.to j k A B a.high b.high) (some (j * A + k * B));
      far = λ j k. rw (height_of_part n p leg.from leg.to j k A B a.high b.high) (share_least j k A B _ a.far b.far);
      near = λ j k. rw (height_of_part n p leg.from leg.to j k A B a.high b.high) (share_most j k A B _ a.near b.near);
    }
  where
    some : (n : ℕ) → pos 0 ≤ℤ pos n
    some n = omega (arith, ints)
