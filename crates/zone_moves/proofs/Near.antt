-- What is hit does come within the gap. The law `what_is_hit_is_near` (src/laws.rt) rests on it.
use Rattle.std.proofs.Common.{◌≡◌, Bool, true, false, not, ◌&&◌, List, [], ◌∷◌, Option, Some, None, inl, inr, ℤ, pos, ◌≤ℤ◌, refl, ap, sym, subst, ◌∙◌, arith}
use Rattle.std.proofs.lemmas.Int.{ints}
use Rattle.std.specs.Prelude.{int_lt}
use Rattle.std.specs.Int.{int_max}
use Rattle.std.specs.List.{find, All}
use Rattle.nc_number.proofs.Bools.{neither, not_true, both}
use Rattle.nc_number.specs.Distances.{distance}
use Rattle.nc_number.specs.declared.both.Both.{Both}
use Rattle.nc_number.specs.declared.path.Path.{Path}
use Rattle.nc_number.specs.declared.path.Path.TheVariants.{One, Two}
use Rattle.nc_number.specs.declared.point.Point.{Point}
use Rattle.nc_number.specs.Path.{is_same}
use Rattle.zone_area.specs.declared.area.Area.{Area}
use Rattle.zone_area.specs.Area.{is_beyond, lie_apart, is_clear}
use Rattle.zone_moves.specs.declared.fixed.Barred.{Barred}
use Rattle.zone_moves.specs.declared.fixed.FixedBox.{FixedBox}
use Rattle.zone_moves.specs.declared.judging.Hit.{Hit}
use Rattle.zone_moves.specs.declared.judging.Hit.TheVariants as kind
use Rattle.zone_moves.specs.declared.stretch.Stretch.{Stretch}
use Rattle.zone_moves.specs.Fixed.{binds, is_barred, barred_or, first_barred}
use Rattle.zone_moves.specs.Judged.{pair_hit, barred_hit, judged}
use Rattle.zone_moves.specs.Pairs.{meets, first_met, pair_or, first_pair, ComeNear}
use Rattle.zone_moves.specs.Stretches.{CellView}
use Rattle.zone_moves.specs.Touching.{IsUpright, AreUpright, IsTrueBar, IsTrueHit}
use Rattle.zone_moves.proofs.Members.{IsIn, contained, each}

-- two lengths of two spans that are no more than the gap apart
record MeetAlong (gap low high other_low other_high : ℤ) : Type 0 where
  p : ℤ
  q : ℤ
  p_low : low ≤ℤ p
  p_high : p ≤ℤ high
  q_low : other_low ≤ℤ q
  q_high : q ≤ℤ other_high
  near : pos (distance p q) ≤ℤ gap

-- spans of which none lies beyond the other have two such lengths
meet_along : (gap low high other_low other_high : ℤ) → pos 0 ≤ℤ gap → low ≤ℤ high → other_low ≤ℤ other_high
    → lie_apart gap low high other_low other_high ≡ false → MeetAlong gap low high other_low other_high
meet_along gap low high other_low other_high some up other_up apart = after (int_lt high other_low) refl
  where
    parts : (is_beyond gap high other_low ≡ false) × (is_beyond gap other_high low ≡ false)
    parts = neither (is_beyond gap high other_low) (is_beyond gap other_high low) apart

    before : (b : Bool) → int_lt other_high low ≡ b → int_lt high other_low ≡ false → MeetAlong gap low high other_low other_high
    before true e first = record {
      p = low;
      q = other_high;
      p_low = omega (arith, ints);
      p_high = up;
      q_low = other_up;
      q_high = omega (arith, ints);
      near = let second = parts.1 in grind (arith, ints);
    }
    before false e first = record {
      p = int_max low other_low;
      q = int_max low other_low;
      p_low = grind (arith, ints);
      p_high = grind (arith, ints);
      q_low = grind (arith, ints);
      q_high = grind (arith, ints);
      near = omega (arith, ints);
    }

    after : (b : Bool) → int_lt high other_low ≡ b → MeetAlong gap low high other_low other_high
    after true e = record {
      p = high;
      q = other_low;
      p_low = up;
      p_high = omega (arith, ints);
      q_low = omega (arith, ints);
      q_high = other_up;
      near = let first = parts.0 in grind (arith, ints);
    }
    after false e = before (int_lt other_high low) refl e

-- areas that are not clear come within the gap
come_near : (gap : Point) (a b : Area) → pos 0 ≤ℤ gap.x → pos 0 ≤ℤ gap.z → IsUpright a → IsUpright b → is_clear gap a b ≡ false → ComeNear gap a b
come_near gap a b across along up other_up is =
    let parts = neither (lie_apart gap.x a.low.x a.high.x b.low.x b.high.x) (lie_apart gap.z a.low.z a.high.z b.low.z b.high.z) is in
    let x = meet_along gap.x a.low.x a.high.x b.low.x b.high.x across up.across other_up.across parts.0 in
    let z = meet_along gap.z a.low.z a.high.z b.low.z b.high.z along up.along other_up.along parts.1 in
    record {
      p = record { x = x.p; z = z.p };
      q = record { x = x.q; z = z.q };
      first = record { left = x.p_low; right = x.p_high; below = z.p_low; above = z.p_high };
      second = record { left = x.q_low; right = x.q_high; below = z.q_low; above = z.q_high };
      across = x.near;
      along = z.near;
    }

-- two values that are there alike are the same
some_same : {X : Type 0} (x y : X) → Some x ≡ Some y → x ≡ y
some_same x y is = cc

-- what is found is of the list, and passes the test
find_some : {X : Type 0} (test : X → Bool) (xs : List X) (x : X) → find test xs ≡ Some x → IsIn x xs × (test x ≡ true)
find_some test [] x is = absurd cc
find_some test (y ∷ xs) x is = go (test y) refl (λ later. find_some test xs x later)
  where
    go : (b : Bool) → test y ≡ b → (find test xs ≡ Some x → IsIn x xs × (test x ≡ true)) → IsIn x (y ∷ xs) × (test x ≡ true)
    go true e rest = let here : Some y ≡ Some x = sym (rw e refl) ∙ is in let same : y ≡ x = cc in (inl (sym same), subst (λ z. test z ≡ true) same e)
    go false e rest = let found = rest (sym (rw e refl) ∙ is) in (inr found.0, found.1)

-- a pair that is found is of the lists, and not clear
pair_some : (gap : Point) (ls others : List Stretch) (pair : Both Stretch) → first_pair gap ls others ≡ Some pair
    → IsIn pair.one ls × IsIn pair.two others × (is_clear gap pair.one.area pair.two.area ≡ false)
pair_some gap [] others pair is = absurd cc
pair_some gap (l ∷ ls) others pair is = go (first_met gap l others) refl (λ later. pair_some gap ls others pair later)
  where
    go : (met : Option Stretch) → first_met gap l others ≡ met
        → (first_pair gap ls others ≡ Some pair → IsIn pair.one ls × IsIn pair.two others × (is_clear gap pair.one.area pair.two.area ≡ false))
        → IsIn pair.one (l ∷ ls) × IsIn pair.two others × (is_clear gap pair.one.area pair.two.area ≡ false)
    go (Some two) e rest =
        let here : Some (record { one = l; two = two }) ≡ Some pair = sym (ap (λ met. pair_or l met (first_pair gap ls others)) e) ∙ is in
        let found = find_some (λ (other : Stretch). meets gap l.area other.area) others two e in
        let P : Both Stretch → Type 0 = λ x. IsIn x.one (l ∷ ls) × IsIn x.two others × (is_clear gap x.one.area x.two.area ≡ false) in
        subst P (some_same (record { one = l; two = two }) pair here) (inl refl, found.0, not_true (is_clear gap l.area two.area) found.1)
    go None e rest =
        let found = rest (sym (ap (λ met. pair_or l met (first_pair gap ls others)) e) ∙ is) in
        (inr found.0, found.1, found.2)

-- a bar that is found is of the lists, and not clear
barred_some : (gap : Point) (path : Path) (boxes : List FixedBox) (ss : List Stretch) (barred : Barred) → first_barred gap path boxes ss ≡ Some barred
    → IsIn barred.stretch ss × IsIn barred.fixed boxes × (is_barred gap path barred.stretch barred.fixed ≡ true)
barred_some gap path boxes [] barred is = absurd cc
barred_some gap path boxes (s ∷ ss) barred is = go (find (is_barred gap path s) boxes) refl (λ later. barred_some gap path boxes ss barred later)
  where
    go : (fixed : Option FixedBox) → find (is_barred gap path s) boxes ≡ fixed
        → (first_barred gap path boxes ss ≡ Some barred → IsIn barred.stretch ss × IsIn barred.fixed boxes × (is_barred gap path barred.stretch barred.fixed ≡ true))
        → IsIn barred.stretch (s ∷ ss) × IsIn barred.fixed boxes × (is_barred gap path barred.stretch barred.fixed ≡ true)
    go (Some fixed) e rest =
        let here : Some (record { stretch = s; fixed = fixed }) ≡ Some barred = sym (ap (λ f. barred_or s f (first_barred gap path boxes ss)) e) ∙ is in
        let found = find_some (is_barred gap path s) boxes fixed e in
        let P : Barred → Type 0 = λ x. IsIn x.stretch (s ∷ ss) × IsIn x.fixed boxes × (is_barred gap path x.stretch x.fixed ≡ true) in
        subst P (some_same (record { stretch = s; fixed = fixed }) barred here) (inl refl, found.0, found.1)
    go None e rest =
        let found = rest (sym (ap (λ f. barred_or s f (first_barred gap path boxes ss)) e) ∙ is) in
        (inr found.0, found.1, found.2)

-- paths that are tested to be the same are
paths_same : (p q : Path) → is_same p q ≡ true → p ≡ q
paths_same One One is = refl
paths_same One Two is = absurd cc
paths_same Two One is = absurd cc
paths_same Two Two is = refl

-- a bar that is found is a true one
true_bar : (cell : CellView) (path : Path) (ss : List Stretch) (barred : Barred) → pos 0 ≤ℤ cell.gap.x → pos 0 ≤ℤ cell.gap.z
    → All (λ (stretch : Stretch). IsUpright stretch.area) ss → All (λ (fixed : FixedBox). IsUpright fixed.area) cell.boxes
    → first_barred cell.gap path cell.boxes ss ≡ Some barred → IsTrueBar cell path ss barred.stretch barred.fixed.number
true_bar cell path ss barred across along up boxes is =
    let found = barred_some cell.gap path cell.boxes ss barred is in
    let f = barred.fixed in
    let s = barred.stretch in
    let whole = both (is_same f.path path && binds f.keeps s.rapid) (not (is_clear cell.gap s.area f.area)) found.2 in
    let front = both (is_same f.path path) (binds f.keeps s.rapid) whole.0 in
    record {
      fixed = f;
      numbered = refl;
      of_path = paths_same f.path path front.0;
      moved = contained s ss found.0;
      stands = contained f cell.boxes found.1;
      barred = front.1;
      near = come_near cell.gap s.area f.area across along
          (each (λ (stretch : Stretch). IsUpright stretch.area) ss s up found.0)
          (each (λ (fixed : FixedBox). IsUpright fixed.area) cell.boxes f boxes found.1)
          (not_true (is_clear cell.gap s.area f.area) whole.1);
    }

-- what is hit is in the lists, and comes within the gap
pub true_hit : (cell : CellView) (lefts rights : List Stretch) (hit : Hit) → AreUpright cell lefts rights
    → judged cell lefts rights ≡ Some hit → IsTrueHit cell lefts rights hit
true_hit cell lefts rights hit up is =
    first (first_pair cell.gap lefts rights) refl (first_barred cell.gap One cell.boxes lefts) refl (first_barred cell.gap Two cell.boxes rights) refl
  where
    first : (pair : Option (Both Stretch)) → first_pair cell.gap lefts rights ≡ pair
        → (one : Option Barred) → first_barred cell.gap One cell.boxes lefts ≡ one
        → (two : Option Barred) → first_barred cell.gap Two cell.boxes rights ≡ two
        → IsTrueHit cell lefts rights hit
    first (Some pair) e one f two g =
        let found = pair_some cell.gap lefts rights pair e in
        let here : Some (kind.Paths pair.one pair.two) ≡ Some hit = sym (ap (λ p. pair_hit p (barred_hit One (first_barred cell.gap One cell.boxes lefts) (barred_hit Two (first_barred cell.gap Two cell.boxes rights) None))) e) ∙ is in
        subst (IsTrueHit cell lefts rights) (some_same (kind.Paths pair.one pair.two) hit here) (
          contained pair.one lefts found.0,
          contained pair.two rights found.1,
          come_near cell.gap pair.one.area pair.two.area up.across up.along
              (each (λ (stretch : Stretch). IsUpright stretch.area) lefts pair.one up.left_areas found.0)
              (each (λ (stretch : Stretch). IsUpright stretch.area) rights pair.two up.right_areas found.1) found.2,
        )
    first None e (Some one) f two g =
        let here : Some (kind.Fixed One one.stretch one.fixed.number) ≡ Some hit
        = sym (ap (λ p. pair_hit p (barred_hit One (first_barred cell.gap One cell.boxes lefts) (barred_hit Two (first_barred cell.gap Two cell.boxes rights) None))) e
        ∙ ap (λ b. barred_hit One b (barred_hit Two (first_barred cell.gap Two cell.boxes rights) None)) f) ∙ is in
        subst (IsTrueHit cell lefts rights) (some_same (kind.Fixed One one.stretch one.fixed.number) hit here)
        (true_bar cell One lefts one up.across up.along up.left_areas up.boxes f)
    first None e None f (Some two) g =
        let here : Some (kind.Fixed Two two.stretch two.fixed.number) ≡ Some hit
        = sym (ap (λ p. pair_hit p (barred_hit One (first_barred cell.gap One cell.boxes lefts) (barred_hit Two (first_barred cell.gap Two cell.boxes rights) None))) e
        ∙ ap (λ b. barred_hit One b (barred_hit Two (first_barred cell.gap Two cell.boxes rights) None)) f
        ∙ ap (λ b. barred_hit Two b None) g) ∙ is in
        subst (IsTrueHit cell lefts rights) (some_same (kind.Fixed Two two.stretch two.fixed.number) hit here)
        (true_bar cell Two rights two up.across up.along up.right_areas up.boxes g)
    first None e None f None g =
        let none : None ≡ Some hit
        = sym (ap (λ p. pair_hit p (barred_hit One (first_barred cell.gap One cell.boxes lefts) (barred_hit Two (first_barred cell.gap Two cell.boxes rights) None))) e
        ∙ ap (λ b. barred_hit One b (barred_hit Two (first_barred cell.gap Two cell.boxes rights) None)) f
        ∙ ap (λ b. barred_hit Two b None) g) ∙ is in
        absurd cc
