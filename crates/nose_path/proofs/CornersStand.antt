-- Each place of a corner stands beside the lines of the corner: rounding never uses a leg up (the law
-- `a_corner_stands_beside_its_lines`, src/law.rt).
use Rattle.std.proofs.Common.{◌≡◌, ◌⊎◌, ℕ, suc, ◌+◌, ◌-◌, ◌*◌, ◌/◌, ◌%◌, ◌<◌, ◌≤◌, max, Bool, true, false, ◌&&◌, ℤ, pos, negsuc, neg_ℤ, ◌+ℤ◌, ◌-ℤ◌, ◌*ℤ◌, ◌≤ℤ◌, ◌<ℤ◌, Option, Some, None, cond, refl, sym, subst, ◌∙◌, ap, arith, unsigned_abs, inl, inr}
use Rattle.std.specs.Prelude.{int_lt, int_le, nat_le}
use Rattle.std.proofs.lemmas.Int.{ints, by_lt_z, unsigned_abs-mul}
use Rattle.std.proofs.lemmas.Bool.{cases_lt}
use Rattle.std.proofs.lemmas.Bool.Decides.{nat_tests}
use Rattle.std.proofs.Math.IntN.{*ℤ_comm}
use Rattle.std.proofs.Math.Nat.{mul-le-mul, mul-le-mul_left}
use Rattle.nc_number.specs.Arithmetic.{square_root}
use Rattle.nc_number.proofs.Roots.{root_squares, root_next}
use Rattle.plane_ways.specs.declared.place.Place.{Place}
use Rattle.plane_ways.specs.declared.place.Side.{Side}
use Rattle.plane_ways.specs.declared.place.Side.TheVariants.{Left, Right}
use Rattle.nose_path.specs.declared.nose.Turn.{Turn}
use Rattle.nose_path.specs.declared.nose.Nose.{Nose}
use Rattle.plane_ways.specs.declared.place.Line.{Line}
use Rattle.plane_ways.specs.declared.place.TheConstants.{FAR}
use Rattle.nc_number.specs.Options.{◌>>=◌}
use Rattle.nc_number.proofs.Integers.{lt_is, le_is}
use Rattle.plane_ways.specs.Plane.{way, dot, square, turned, times, plus, IsWithin}
use Rattle.nose_path.specs.Beside.{height, is_beside}
use Rattle.plane_ways.specs.Steps.{stepped, near_place, direction, is_same, length_of}
use Rattle.nose_path.specs.Legs.{beside, meeting, notch, past, before, at_one, round_end, turn_at, kept, IsCorner}
use Rattle.plane_ways.proofs.Rings.{times_neg, scaled_le}
use Rattle.plane_ways.proofs.Strips.{dot_plus, dot_times, dot_way}
use Rattle.plane_ways.proofs.Directions.{way_some, goes_into}
use Rattle.plane_ways.proofs.Stored.{way_within}
use Rattle.plane_ways.proofs.Products.{dot_comm, both_turned, turned_back, across_itself, own_square, own_turned, turned_times, dot_times_first, square_times}
use Rattle.plane_ways.proofs.Lengths.{long, square_between, Makes, direction_makes, behind, same_some, near_is}
use Rattle.plane_ways.proofs.Missed.{cancel, across_missed, along_missed, height_missed, Beside, about}

-- a step from a corner c whose way's height is about the length has the radius's height
stands : (s : Side) (r N : ℕ) (c by d : Place) → 0 < N → 4 ≤ r → 2 * r ≤ length_of d
    → pos (N * length_of d) ≤ℤ dot (turned s d) by → dot (turned s d) by ≤ℤ pos (N * (length_of d + 2))
    → Beside r (square d) (dot (turned s d) (way c (stepped c (times r by) N)))
stands s r N c by d some wide far low high =
    let l = long d in
    let t = turned s d in
    let near = turned_parts s d (length_of d) l.across l.along in
    let m = height_missed t.across t.along by.across by.along _ _ N r (length_of d) (across_missed (pos r *ℤ by.across) N some) (along_missed (pos r *ℤ by.along) N some) near.0 near.1 in
    let b = about r (length_of d) (square d) N _ (dot t by) m low high some wide far l.square_low l.square_high in
    subst (Beside r (square d)) (sym (steps t c _ _)) b
  where
    turned_parts : (s : Side) (d : Place) (L : ℕ) → unsigned_abs d.across ≤ L → unsigned_abs d.along ≤ L → (unsigned_abs (turned s d).across ≤ L) × (unsigned_abs (turned s d).along ≤ L)
    turned_parts Left d L a l = (l, size d.across a)
      where
        size : (x : ℤ) → unsigned_abs x ≤ L → unsigned_abs (neg_ℤ x) ≤ L
        size x e = omega (arith, ints)
    turned_parts Right d L a l = (size d.along l, a)
      where
        size : (x : ℤ) → unsigned_abs x ≤ L → unsigned_abs (neg_ℤ x) ≤ L
        size x e = omega (arith, ints)

    steps : (t c : Place) (x y : ℤ) → dot t (way c (record { across = c.across +ℤ x; along = c.along +ℤ y })) ≡ (t.across *ℤ x +ℤ t.along *ℤ y)
    steps t c x y = rw (back c.across x, back c.along y) refl
      where
        back : (u v : ℤ) → ((u +ℤ v) -ℤ u) ≡ v
        back u v = omega (arith, ints)

-- the four forms of a place at a corner

beside_stands : (s : Side) (r : ℕ) (c d : Place) → 0 < length_of d → 4 ≤ r → 2 * r ≤ length_of d
    → Beside r (square d) (dot (turned s d) (way c (stepped c (times r (turned s d)) (length_of d))))
beside_stands s r c d some wide far =
    let b = square_between d in
    stands s r (length_of d) c (turned s d) d some wide far (rw (own_turned s d) (b.0)) (rw (own_turned s d) (b.1))

past_stands : (s : Side) (r : ℕ) (c d : Place) → 0 < length_of d → 4 ≤ r → 2 * r ≤ length_of d
    → Beside r (square d) (dot (turned s d) (way c (stepped c (times r (plus (turned s d) d)) (length_of d))))
past_stands s r c d some wide far =
    let b = square_between d in
    let is : dot (turned s d) (plus (turned s d) d) ≡ pos (square d) = dot_plus (turned s d) (turned s d) d ∙ rw (own_turned s d, across_itself s d) (none (square d)) in
    stands s r (length_of d) c (plus (turned s d) d) d some wide far (rw is (b.0)) (rw is (b.1))
  where
    none : (n : ℕ) → (pos n +ℤ pos 0) ≡ pos n
    none n = omega (arith, ints)

before_stands : (s : Side) (r : ℕ) (c e : Place) → 0 < length_of e → 4 ≤ r → 2 * r ≤ length_of e
    → Beside r (square e) (dot (turned s e) (way c (stepped c (times r (way e (turned s e))) (length_of e))))
before_stands s r c e some wide far =
    let b = square_between e in
    let is : dot (turned s e) (way e (turned s e)) ≡ pos (square e) = dot_way (turned s e) e (turned s e) ∙ rw (own_turned s e, across_itself s e) (none (square e)) in
    stands s r (length_of e) c (way e (turned s e)) e some wide far (rw is (b.0)) (rw is (b.1))
  where
    none : (n : ℕ) → (pos n -ℤ pos 0) ≡ pos n
    none n = omega (arith, ints)

-- the bounds at a meeting: m is the other direction's length
meeting_bounds : (L D m x N : ℕ) (b y : ℤ) → L * L ≤ D → D < (L + 1) * (L + 1) → y ≡ pos x → N ≡ L * m + x → b ≡ (pos m *ℤ pos D +ℤ pos L *ℤ y)
    → (pos (N * L) ≤ℤ b) × (b ≤ℤ pos (N * (L + 2)))
meeting_bounds L D m x N b y low high y_is N_is b_is =
    let flat : b ≡ pos (m * D + L * x) = b_is ∙ rw y_is (omega (arith, ints)) in
    let at_low : m * (L * L) ≤ m * D = mul-le-mul_left m low in
    let enough : D ≤ L * (L + 2) = omega (arith, high) in
    let at_high : m * D ≤ m * (L * (L + 2)) = mul-le-mul_left m enough in
    rw (flat, N_is) (small L D m x at_low, large L D m x at_high)
  where
    small : (L D m x : ℕ) → m * (L * L) ≤ m * D → pos ((L * m + x) * L) ≤ℤ pos (m * D + L * x)
    small L D m x le = omega (arith, ints, le)

    large : (L D m x : ℕ) → m * D ≤ m * (L * (L + 2)) → pos (m * D + L * x) ≤ℤ pos ((L * m + x) * (L + 2))
    large L D m x le = omega (arith, ints, le)

-- the places of both lines at a corner, one way
record BothStand (s : Side) (r : ℕ) (c d e at : Place) : Type 0 where
  pub first : Beside r (square d) (dot (turned s d) (way c at))
  pub second : Beside r (square e) (dot (turned s e) (way c at))

meeting_stands : (s : Side) (r : ℕ) (c d e : Place) → 0 < length_of d → 0 < length_of e → 4 ≤ r → 2 * r ≤ length_of d → 2 * r ≤ length_of e → pos 0 ≤ℤ dot d e
    → BothStand s r c d e (stepped c (times r (plus (times (length_of e) (turned s d)) (times (length_of d) (turned s e)))) (unsigned_abs (pos (length_of d * length_of e) +ℤ dot d e)))
meeting_stands s r c d e some_d some_e wide far_d far_e ahead =
    let x : ℕ = unsigned_abs (dot d e) in
    let N : ℕ = unsigned_abs (pos (length_of d * length_of e) +ℤ dot d e) in
    let by = plus (times (length_of e) (turned s d)) (times (length_of d) (turned s e)) in
    let y_is : dot d e ≡ pos (unsigned_abs (dot d e)) = size_is (dot d e) ahead in
    let N_is : unsigned_abs (pos (length_of d * length_of e) +ℤ dot d e) ≡ length_of d * length_of e + unsigned_abs (dot d e) = sum_is (length_of d * length_of e) (dot d e) ahead in
    let area : 1 * 1 ≤ length_of d * length_of e = mul-le-mul some_d some_e in
    let some : 0 < unsigned_abs (pos (length_of d * length_of e) +ℤ dot d e) = omega (arith, N_is, area) in
    let ld = long d in
    let le = long e in
    let by_d : dot (turned s d) by ≡ (pos (length_of e) *ℤ pos (square d) +ℤ pos (length_of d) *ℤ dot d e) =
    dot_plus (turned s d) (times (length_of e) (turned s d)) (times (length_of d) (turned s e))
    ∙ rw (dot_times (turned s d) (turned s d) (length_of e), dot_times (turned s d) (turned s e) (length_of d), own_turned s d, both_turned s d e) refl in
    let by_e : dot (turned s e) by ≡ (pos (length_of d) *ℤ pos (square e) +ℤ pos (length_of e) *ℤ dot d e) =
    dot_plus (turned s e) (times (length_of e) (turned s d)) (times (length_of d) (turned s e))
    ∙ rw (dot_times (turned s e) (turned s d) (length_of e), dot_times (turned s e) (turned s e) (length_of d), own_turned s e, both_turned s e d, dot_comm e d)
    (swap (pos (length_of e) *ℤ dot d e) (pos (length_of d) *ℤ pos (square e))) in
    let bounds_d = meeting_bounds (length_of d) (square d) (length_of e) x N _ (dot d e) ld.square_low ld.square_high y_is N_is by_d in
    let turn : length_of d * length_of e + unsigned_abs (dot d e) ≡ length_of e * length_of d + unsigned_abs (dot d e) = omega arith in
    let bounds_e = meeting_bounds (length_of e) (square e) (length_of d) x N _ (dot d e) le.square_low le.square_high y_is (N_is ∙ turn) by_e in
    record {
      first = stands s r N c by d some wide far_d bounds_d.0 bounds_d.1;
      second = stands s r N c by e some wide far_e bounds_e.0 bounds_e.1;
    }
  where
    size_is : (z : ℤ) → pos 0 ≤ℤ z → z ≡ pos (unsigned_abs z)
    size_is z le = omega (arith, ints)

    sum_is : (n : ℕ) (z : ℤ) → pos 0 ≤ℤ z → unsigned_abs (pos n +ℤ z) ≡ n + unsigned_abs z
    sum_is n z le = omega (arith, ints)

    swap : (u v : ℤ) → (u +ℤ v) ≡ (v +ℤ u)
    swap u v = omega (arith, ints)

notch_stands : (s : Side) (r : ℕ) (c d e : Place) → 4 ≤ r → 2 * r ≤ length_of d → 2 * r ≤ length_of e → pos 0 <ℤ dot (turned s d) e
    → BothStand s r c d e (stepped c (times r (way (times (length_of e) d) (times (length_of d) e))) (unsigned_abs (dot (turned s d) e)))
notch_stands s r c d e wide far_d far_e inner =
    let N : ℕ = unsigned_abs (dot (turned s d) e) in
    let by = way (times (length_of e) d) (times (length_of d) e) in
    let is : dot (turned s d) e ≡ pos (unsigned_abs (dot (turned s d) e)) = size_is (dot (turned s d) e) inner in
    let some : 0 < unsigned_abs (dot (turned s d) e) = size_some (dot (turned s d) e) inner in
    let by_d : dot (turned s d) by ≡ pos (N * length_of d) =
    dot_way (turned s d) (times (length_of e) d) (times (length_of d) e)
    ∙ rw (dot_times (turned s d) e (length_of d), dot_times (turned s d) d (length_of e), across_itself s d) (first (length_of d) (length_of e) (dot (turned s d) e) N is) in
    let by_e : dot (turned s e) by ≡ pos (N * length_of e) =
    dot_way (turned s e) (times (length_of e) d) (times (length_of d) e)
    ∙ rw (dot_times (turned s e) e (length_of d), dot_times (turned s e) d (length_of e), across_itself s e, turned_back s d e) (second (length_of d) (length_of e) (dot (turned s d) e) N is) in
    record {
      first = stands s r N c by d some wide far_d (rw by_d (same (N * length_of d))) (rw by_d (more N (length_of d)));
      second = stands s r N c by e some wide far_e (rw by_e (same (N * length_of e))) (rw by_e (more N (length_of e)));
    }
  where
    size_is : (z : ℤ) → pos 0 <ℤ z → z ≡ pos (unsigned_abs z)
    size_is z lt = omega (arith, ints)

    size_some : (z : ℤ) → pos 0 <ℤ z → 0 < unsigned_abs z
    size_some z lt = omega (arith, ints)

    same : (n : ℕ) → pos n ≤ℤ pos n
    same n = omega (arith, ints)

    more : (n l : ℕ) → pos (n * l) ≤ℤ pos (n * (l + 2))
    more n l = omega (arith, ints)

    first : (l m : ℕ) (z : ℤ) (N : ℕ) → z ≡ pos N → ((pos l *ℤ z) -ℤ (pos m *ℤ pos 0)) ≡ pos (N * l)
    first l m z N is = rw is (omega (arith, ints))

    second : (l m : ℕ) (z : ℤ) (N : ℕ) → z ≡ pos N → ((pos l *ℤ pos 0) -ℤ (pos m *ℤ neg_ℤ z)) ≡ pos (N * m)
    second l m z N is = let n = times_neg (pos m) (pos N) in rw is (omega (arith, ints, n))

-- what stands beside a direction stands beside its line
beside_line : (s : Side) (r k : ℕ) (p q at : Place) (h : ℤ) → 0 < k → h ≡ height s p q at → Beside r (k * k * square (way p q)) (pos k *ℤ h) → is_beside s r p q at ≡ true
unfolding is_beside
beside_line s r k p q at h some is b =
    let flat = parts k h some b in
    let high : int_lt (pos 0) (height s p q at) ≡ true = subst (λ (z : ℤ). int_lt (pos 0) z ≡ true) is flat.0 in
    let square_some : 0 < k * k = (let a : 1 * 1 ≤ k * k = mul-le-mul some some in omega (arith, a)) in
    let far : (r - 4) * (r - 4) * square (way p q) ≤ unsigned_abs h * unsigned_abs h = cancel (k * k) ((r - 4) * (r - 4) * square (way p q)) (unsigned_abs h * unsigned_abs h) square_some (let f = b.far in omega (arith, f, flat.1)) in
    let near : unsigned_abs h * unsigned_abs h ≤ (r + 4) * (r + 4) * square (way p q) = cancel (k * k) (unsigned_abs h * unsigned_abs h) ((r + 4) * (r + 4) * square (way p q)) square_some (let f = b.near in omega (arith, f, flat.1)) in
    let test_far : nat_le ((r - 4) * (r - 4) * square (way p q)) (unsigned_abs (height s p q at) * unsigned_abs (height s p q at)) ≡ true = subst (λ (z : ℤ). nat_le ((r - 4) * (r - 4) * square (way p q)) (unsigned_abs z * unsigned_abs z) ≡ true) is (le_test _ _ far) in
    let test_near : nat_le (unsigned_abs (height s p q at) * unsigned_abs (height s p q at)) ((r + 4) * (r + 4) * square (way p q)) ≡ true = subst (λ (z : ℤ). nat_le (unsigned_abs z * unsigned_abs z) ((r + 4) * (r + 4) * square (way p q)) ≡ true) is (le_test _ _ near) in
    all_three _ _ _ high test_far test_near
  where
    le_test : (a b : ℕ) → a ≤ b → nat_le a b ≡ true
    le_test a b le = grind (arith, nat_tests)

    all_three : (a b c : Bool) → a ≡ true → b ≡ true → c ≡ true → (a && b && c) ≡ true
    all_three a b c x y z = rw (x, y, z) refl

    lt_test : (h : ℤ) → pos 0 <ℤ h → int_lt (pos 0) h ≡ true
    lt_test h less = grind (arith, ints)

    parts : (k : ℕ) (h : ℤ) → 0 < k → Beside r (k * k * square (way p q)) (pos k *ℤ h) → (int_lt (pos 0) h ≡ true) × (unsigned_abs (pos k *ℤ h) * unsigned_abs (pos k *ℤ h) ≡ k * k * (unsigned_abs h * unsigned_abs h))
    parts k h some b = (positive k h some b.is b.some, rw (unsigned_abs-mul (pos k) h) (go k (unsigned_abs h)))
      where
        go : (k a : ℕ) → k * a * (k * a) ≡ k * k * (a * a)
        go k a = omega arith

        positive : (k : ℕ) (h : ℤ) → 0 < k → (pos k *ℤ h) ≡ pos (unsigned_abs (pos k *ℤ h)) → 0 < unsigned_abs (pos k *ℤ h) → int_lt (pos 0) h ≡ true
        positive k h some is more = by_lt_z (pos 0) h (λ less. lt_test h less)
            (λ down. let s = scaled_le k h (pos 0) down in absurd (omega (arith, ints, s, is, more)))

-- a place beside a direction from p to q, seen from one of them, is beside their line
line_stands : (s : Side) (r : ℕ) (p q c at d : Place) → Makes p q d → dot (turned s (way p q)) (way c at) ≡ height s p q at
    → Beside r (square d) (dot (turned s d) (way c at)) → is_beside s r p q at ≡ true
line_stands s r p q c at d m same b =
    let k = m.often in
    let w = way p q in
    let b1 : Beside r (square (times m.often (way p q))) (dot (turned s (times m.often (way p q))) (way c at)) = subst (λ (x : Place). Beside r (square x) (dot (turned s x) (way c at))) m.is b in
    let b2 : Beside r (m.often * m.often * square (way p q)) (pos m.often *ℤ dot (turned s (way p q)) (way c at)) =
    rw (square_times m.often (way p q), turned_times s m.often (way p q), dot_times_first (turned s (way p q)) (way c at) m.often) at b1 in
    beside_line s r m.often p q at (dot (turned s (way p q)) (way c at)) m.some same b2

-- seen from its end, a place is as high above a line as from its start
from_end : (s : Side) (p q at : Place) → dot (turned s (way p q)) (way q at) ≡ height s p q at
from_end s p q at =
    let t = turned s (way p q) in
    let zero : dot t (way p q) ≡ pos 0 = across_itself s (way p q) in
    let a = dot_way t p q in
    let b = dot_way t q at in
    let c = dot_way t p at in
    go (dot t p) (dot t q) (dot t at) (dot t (way p q)) (dot t (way q at)) (dot t (way p at)) zero a b c
  where
    go : (x y z u v w : ℤ) → u ≡ pos 0 → u ≡ (y -ℤ x) → v ≡ (z -ℤ y) → w ≡ (z -ℤ x) → v ≡ w
    go x y z u v w e a b c = omega (arith, ints)

-- the law

-- a corner whose legs end and begin at one place
one_place : (place : Option Place) (turn : Turn) → at_one place ≡ Some turn → (x : Place) × (place ≡ Some x) × (turn.to ≡ x) × (turn.from ≡ x)
one_place place turn e =
    let b = behind place _ turn e in
    let is : ◌≡◌ {A = Turn} (record { to = b.0; from = b.0 }) turn = same_some _ turn b.2 in
    (b.0, b.1, ap (λ (t : Turn). t.to) (sym is), ap (λ (t : Turn). t.from) (sym is))

-- both ends of a corner are beside the directions of their legs
record TurnStands (s : Side) (r : ℕ) (c d e : Place) (turn : Turn) : Type 0 where
  pub to : Beside r (square d) (dot (turned s d) (way c turn.to))
  pub from : Beside r (square e) (dot (turned s e) (way c turn.from))

turn_stands : (nose : Nose) (c d e : Place) (turn : Turn) → 4 ≤ nose.radius → nose.radius ≤ 2000000 → 4000000 ≤ length_of d → 4000000 ≤ length_of e
    → turn_at nose c d e ≡ Some turn → TurnStands nose.side nose.radius c d e turn
unfolding turn_at
turn_stands nose c d e turn wide small far_d far_e is = go (int_le (pos 0) (dot d e)) (int_lt (pos 0) (dot (turned nose.side d) e)) refl refl is
  where
    one : (x y : Place) → BothStand nose.side nose.radius c d e x → x ≡ y → turn.to ≡ y → turn.from ≡ y → TurnStands nose.side nose.radius c d e turn
    one x y b same to from = record {
      to = subst (λ (at : Place). Beside nose.radius (square d) (dot (turned nose.side d) (way c at))) (same ∙ sym to) b.first;
      from = subst (λ (at : Place). Beside nose.radius (square e) (dot (turned nose.side e) (way c at))) (same ∙ sym from) b.second;
    }

    go : (a b : Bool) → int_le (pos 0) (dot d e) ≡ a → int_lt (pos 0) (dot (turned nose.side d) e) ≡ b
        → cond a (at_one (meeting nose c d e)) (cond b (at_one (notch nose c d e)) (round_end nose c d e)) ≡ Some turn → TurnStands nose.side nose.radius c d e turn
    go true b ea eb is =
        let o = one_place (meeting nose c d e) turn is in
        let ahead = le_is (pos 0) (dot d e) ea in
        let both = meeting_stands nose.side nose.radius c d e (omega (arith, far_d)) (omega (arith, far_e)) wide (omega (arith, far_d, small)) (omega (arith, far_e, small)) ahead in
        one _ o.0 both (near_is _ o.0 o.1) o.2 o.3
    go false true ea eb is =
        let o = one_place (notch nose c d e) turn is in
        let inner = lt_is (pos 0) (dot (turned nose.side d) e) eb in
        let both = notch_stands nose.side nose.radius c d e wide (omega (arith, far_d, small)) (omega (arith, far_e, small)) inner in
        one _ o.0 both (near_is _ o.0 o.1) o.2 o.3
    go false false ea eb is =
        let to = behind (past nose c d) _ turn is in
        let from = behind (before nose c e) _ turn to.2 in
        let same : ◌≡◌ {A = Turn} (record { to = to.0; from = from.0 }) turn = same_some _ turn from.2 in
        record {
          to = subst (λ (at : Place). Beside nose.radius (square d) (dot (turned nose.side d) (way c at))) (near_is _ to.0 to.1 ∙ ap (λ (t : Turn). t.to) same)
              (past_stands nose.side nose.radius c d (omega (arith, far_d)) wide (omega (arith, far_d, small)));
          from = subst (λ (at : Place). Beside nose.radius (square e) (dot (turned nose.side e) (way c at))) (near_is _ from.0 from.1 ∙ ap (λ (t : Turn). t.from) same)
              (before_stands nose.side nose.radius c e (omega (arith, far_e)) wide (omega (arith, far_e, small)));
        }

-- both ends of a corner are beside the lines of their legs
pub corner_stands : (nose : Nose) (p q t d e : Place) (turn : Turn) → IsCorner nose p q t d e turn
    → (is_beside nose.side nose.radius p q turn.to ≡ true) × (is_beside nose.side nose.radius q t turn.from ≡ true)
corner_stands nose p q t d e turn c =
    let m = direction_makes p q d c.near_p c.near_q c.first in
    let n = direction_makes q t e c.near_q c.near_t c.second in
    let b = turn_stands nose q d e turn c.wide c.small m.far n.far c.made in (
      line_stands nose.side nose.radius p q q turn.to d m (from_end nose.side p q turn.to) b.to,
      line_stands nose.side nose.radius q t q turn.from e n refl b.from,
    )

-- a leg from a place beside its line is used up only where it goes back
pub used_up_goes_back : (nose : Nose) (p q t d e : Place) (turn : Turn) (at : Place) → IsCorner nose p q t d e turn
    → is_beside nose.side nose.radius p q at ≡ true → kept nose p q (record { from = at; to = turn.to }) ≡ None → dot (way p q) (way at turn.to) <ℤ pos 0
used_up_goes_back nose p q t d e turn at c stood gone =
    let b = corner_stands nose p q t d e turn c in
    go _ _ (int_le (pos 0) (dot (way p q) (way at turn.to))) refl stood b.0 gone
  where
    go : (a b x : Bool) → int_le (pos 0) (dot (way p q) (way at turn.to)) ≡ x → a ≡ true → b ≡ true
        → ◌≡◌ {A = Option Line} (cond (a && b && x) (Some (record { from = at; to = turn.to })) None) None → dot (way p q) (way at turn.to) <ℤ pos 0
    go a b true ex ea eb gone = absurd (some_none _ (rw (ea, eb) at gone))
      where
        some_none : (x : Line) → ◌≡◌ {A = Option Line} (Some x) None → ⊥
        some_none x e = cc
    go a b false ex ea eb gone = not_le (dot (way p q) (way at turn.to)) ex
      where
        not_le : (z : ℤ) → int_le (pos 0) z ≡ false → z <ℤ pos 0
        not_le z e = grind (arith, ints)

-- square to a line, at its start or its end, a place is beside the line
pub ends_stand : (nose : Nose) (p q d c at : Place) → 4 ≤ nose.radius → nose.radius ≤ 2000000 → IsWithin FAR p → IsWithin FAR q → direction p q ≡ Some d
    → (c ≡ p) ⊎ (c ≡ q) → beside nose c d ≡ Some at → is_beside nose.side nose.radius p q at ≡ true
ends_stand nose p q d c at wide small near_p near_q first which is =
    let m = direction_makes p q d near_p near_q first in
    let far = m.far in
    let b : Beside nose.radius (square d) (dot (turned nose.side d) (way c at)) =
    subst (λ (x : Place). Beside nose.radius (square d) (dot (turned nose.side d) (way c x))) (near_is _ at is)
    (beside_stands nose.side nose.radius c d (omega (arith, far)) wide (omega (arith, far, small))) in
    line_stands nose.side nose.radius p q c at d m (seen which) b
  where
    seen : (c ≡ p) ⊎ (c ≡ q) → dot (turned nose.side (way p q)) (way c at) ≡ height nose.side p q at
    seen (inl e) = ap (λ (x : Place). dot (turned nose.side (way p q)) (way x at)) e
    seen (inr e) = ap (λ (x : Place). dot (turned nose.side (way p q)) (way x at)) e ∙ from_end nose.side p q at
