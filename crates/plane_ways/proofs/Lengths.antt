-- Directions and their lengths: a direction is a long multiple of its way.
use Rattle.std.proofs.Common.{◌≡◌, ℕ, suc, ◌+◌, ◌*◌, ◌/◌, ◌%◌, ◌<◌, ◌≤◌, max, Bool, true, false, ◌&&◌, ℤ, pos, ◌≤ℤ◌, Option, Some, None, cond, refl, sym, ◌∙◌, arith, unsigned_abs, inl, inr}
use Rattle.std.specs.Prelude.{nat_le}
use Rattle.std.proofs.lemmas.Int.{ints, unsigned_abs-mul}
use Rattle.std.proofs.lemmas.Bool.{cases_lt}
use Rattle.std.proofs.Math.Nat.{mul-le-mul}
use Rattle.nc_number.specs.Arithmetic.{square_root}
use Rattle.nc_number.specs.Options.{◌>>=◌}
use Rattle.nc_number.proofs.Roots.{root_squares, root_next}
use Rattle.plane_ways.specs.declared.place.Place.{Place}
use Rattle.plane_ways.specs.declared.place.TheConstants.{FAR}
use Rattle.plane_ways.specs.Plane.{way, square, times, IsWithin}
use Rattle.plane_ways.specs.Steps.{near_place, direction, is_same, length_of}
use Rattle.plane_ways.proofs.Directions.{way_some, goes_into}
use Rattle.plane_ways.proofs.Stored.{way_within}

-- the length of a direction: its square is about that of the way, and it is long
pub record Long (d : Place) : Type 0 where
  pub square_low : length_of d * length_of d ≤ square d
  pub square_high : square d < (length_of d + 1) * (length_of d + 1)
  pub across : unsigned_abs d.across ≤ length_of d
  pub along : unsigned_abs d.along ≤ length_of d

pub long : (d : Place) → Long d
long d = record {
  square_low = root_squares (square d) (square d);
  square_high = root_next (square d);
  across = part (unsigned_abs d.across) (unsigned_abs d.along) (square_root (square d)) (root_next (square d));
  along = other (unsigned_abs d.across) (unsigned_abs d.along) (square_root (square d)) (root_next (square d));
}
  where
    part : (a b s : ℕ) → a * a + b * b < (s + 1) * (s + 1) → a ≤ s
    part a b s next = elim (cases_lt s a) [
      | inl more ↦ (let m : suc s * suc s ≤ a * a = mul-le-mul more more in absurd (omega (arith, m, next)))
      | inr enough ↦ enough
    ]

    other : (a b s : ℕ) → a * a + b * b < (s + 1) * (s + 1) → b ≤ s
    other a b s next = elim (cases_lt s b) [
      | inl more ↦ (let m : suc s * suc s ≤ b * b = mul-le-mul more more in absurd (omega (arith, m, next)))
      | inr enough ↦ enough
    ]

-- what the bounds say of the square of a direction
pub square_between : (d : Place) → (pos (length_of d * length_of d) ≤ℤ pos (square d)) × (pos (square d) ≤ℤ pos (length_of d * (length_of d + 2)))
square_between d = let l = long d in go (length_of d) (square d) l.square_low l.square_high
  where
    go : (L D : ℕ) → L * L ≤ D → D < (L + 1) * (L + 1) → (pos (L * L) ≤ℤ pos D) × (pos D ≤ℤ pos (L * (L + 2)))
    go L D low high = (omega (arith, ints, low), omega (arith, ints, high))

-- a direction is so many ways, and long
pub record Makes (p q d : Place) : Type 0 where
  pub often : ℕ
  pub some : 0 < often
  pub is : d ≡ times often (way p q)
  pub far : 4000000 ≤ length_of d

-- how long k times a way is, if k goes into 10 ^ 12 as often as the greater part of the way
pub long_enough : (m k r : ℕ) → m ≤ 1000000000 → m * k + r ≡ 1000000000000 → r < m → 4000000 ≤ k * m
long_enough m k r small split rest = omega (arith, small, split, rest)

pub direction_makes : (p q d : Place) → IsWithin 400000000 p → IsWithin 400000000 q → direction p q ≡ Some d → Makes p q d
unfolding direction
direction_makes p q d near_p near_q e = go (is_same p q) refl e
  where
    m : ℕ
    m = max (unsigned_abs (way p q).across) (unsigned_abs (way p q).along)

    reach : (k a l : ℕ) (d : Place) → unsigned_abs d.across ≡ k * a → unsigned_abs d.along ≡ k * l → k * max a l ≤ length_of d
    reach k a l d is_a is_l =
        let f = long d in
        let across : k * a ≤ length_of d = omega (arith, is_a, f.across) in
        let along : k * l ≤ length_of d = omega (arith, is_l, f.along) in
        elim (cases_lt a l) [
          | inl less ↦ (let is : max a l ≡ l = omega (arith, less) in rw is along)
          | inr more ↦ (let is : max a l ≡ a = omega (arith, more) in rw is across)
        ]

    go : (b : Bool) → is_same p q ≡ b → cond b None (Some (times (1000000000000 / max (unsigned_abs (way p q).across) (unsigned_abs (way p q).along)) (way p q))) ≡ Some d → Makes p q d
    go true s e = absurd (let wrong : None ≡ Some d = e in cc)
    go false s e =
        let some = way_some p q s in
        let near = way_within p q near_p near_q in
        let small : max (unsigned_abs (way p q).across) (unsigned_abs (way p q).along) ≤ 1000000000 = omega (arith, near.0, near.1) in
        let often = goes_into (max (unsigned_abs (way p q).across) (unsigned_abs (way p q).along)) some small in
        let is : d ≡ times (1000000000000 / max (unsigned_abs (way p q).across) (unsigned_abs (way p q).along)) (way p q) = sym (some_same _ d e) in
        let split = division (max (unsigned_abs (way p q).across) (unsigned_abs (way p q).along)) some in
        let far = long_enough _ _ _ small split.0 split.1 in
        let parts = reach (1000000000000 / max (unsigned_abs (way p q).across) (unsigned_abs (way p q).along)) (unsigned_abs (way p q).across) (unsigned_abs (way p q).along) d
        (rw is (unsigned_abs-mul (pos (1000000000000 / max (unsigned_abs (way p q).across) (unsigned_abs (way p q).along))) (way p q).across))
        (rw is (unsigned_abs-mul (pos (1000000000000 / max (unsigned_abs (way p q).across) (unsigned_abs (way p q).along))) (way p q).along)) in
        record { often = 1000000000000 / max (unsigned_abs (way p q).across) (unsigned_abs (way p q).along); some = often.1; is = is; far = omega (arith, far, parts) }
      where
        some_same : {A : Type 0} (x y : A) → Some x ≡ Some y → x ≡ y
        some_same x y e = cc

        division : (m : ℕ) → 0 < m → (m * (1000000000000 / m) + 1000000000000 % m ≡ 1000000000000) × (1000000000000 % m < m)
        division m some = (omega arith, omega (arith, some))

-- a value after two steps was after the first
pub behind : {A B : Type 0} (o : Option A) (f : A → Option B) (y : B) → (o >>= f) ≡ Some y → (x : A) × (o ≡ Some x) × (f x ≡ Some y)
behind None f y e = absurd (let wrong : None ≡ Some y = e in cc)
behind (Some x) f y e = (x, refl, e)

pub same_some : {A : Type 0} (x y : A) → Some x ≡ Some y → x ≡ y
same_some x y e = cc

-- a place that is near enough is that place
pub near_is : (x y : Place) → near_place x ≡ Some y → x ≡ y
near_is x y e = go (nat_le (unsigned_abs x.across) FAR && nat_le (unsigned_abs x.along) FAR) e
  where
    go : (b : Bool) → cond b (Some x) None ≡ Some y → x ≡ y
    go true e = cc
    go false e = absurd (let wrong : None ≡ Some y = e in cc)
