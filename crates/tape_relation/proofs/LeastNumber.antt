-- A search through the refusals of a tape in the order of their numbers finds the least one that
-- holds. For Steps and FirstFault: the reader asks in that order.
use Rattle.std.proofs.Common.{◌≡◌, ℕ, ◌≤◌, Bool, true, false, cond, ◌&&◌, leb, List, [], ◌∷◌, Option, Some, None, ◌⊎◌, inl, inr, refl, ap, sym, subst, ◌∙◌, arith}
use Rattle.std.proofs.lemmas.Bool.{leb-true}
use Rattle.nc_number.proofs.Bools.{both}
use Rattle.line_text.specs.declared.refusal.Refusal.{Refusal}
use Rattle.line_text.specs.declared.refusal.Refusal.TheVariants.{TooManyDigits, BadCharacter, NoNumber, OpenComment, NoProgramNumber, NoEnd, LineTooLong, TooManyBlocks, TapeTooLong, WordRange}
use Rattle.line_text.specs.Refusals.{refusal_number}
use Rattle.nc_text.specs.Lines.{Line}
use Rattle.tape_relation.specs.Conditions.{Holds, IsLeast}

-- all refusals, in the order of their numbers
abbrev pub order : List Refusal
order = TooManyDigits ∷ BadCharacter ∷ NoNumber ∷ OpenComment ∷ NoProgramNumber ∷ NoEnd ∷ LineTooLong ∷ TooManyBlocks ∷ TapeTooLong ∷ WordRange ∷ []

-- the first refusal in a list that passes the test
abbrev pub first_of : (Refusal → Bool) → List Refusal → Option Refusal
first_of test [] = None
first_of test (r ∷ rs) = cond (test r) (Some r) (first_of test rs)

-- the refusal is in this list
abbrev In : Refusal → List Refusal → Type 0
In s [] = ⊥
In s (r ∷ rs) = (s ≡ r) ⊎ In s rs

-- whether each refusal of a list has this number or a greater one
abbrev all_from : ℕ → List Refusal → Bool
all_from n [] = true
all_from n (r ∷ rs) = leb n (refusal_number r) && all_from n rs

-- whether the numbers of the list rise
abbrev rise : List Refusal → Bool
rise [] = true
rise (r ∷ rs) = all_from (refusal_number r) rs && rise rs

-- a refusal of a list in which all have this number or a greater one has it or a greater one
from_here : (n : ℕ) (rs : List Refusal) (s : Refusal) → all_from n rs ≡ true → In s rs → n ≤ refusal_number s
from_here n [] s all is = absurd is
from_here n (r ∷ rs) s all (inl e) =
    let p = both (leb n (refusal_number r)) (all_from n rs) all in
    let P : Refusal → Type 0 = λ q. n ≤ refusal_number q in
    subst P (sym e) (leb-true n (refusal_number r) p.0)
from_here n (r ∷ rs) s all (inr is) = from_here n rs s (both (leb n (refusal_number r)) (all_from n rs) all).1 is

-- the test holds of r, and of none in the list with a lesser number
abbrev IsFound : (Refusal → Bool) → List Refusal → Refusal → Type 0
IsFound test rs r = (test r ≡ true) × ((s : Refusal) → In s rs → test s ≡ true → refusal_number r ≤ refusal_number s)

-- The next two are the steps of `found_by`: the first refusal passes, or it does not.
least_here : (test : Refusal → Bool) (r : Refusal) (rs : List Refusal) → all_from (refusal_number r) rs ≡ true → (s : Refusal) → In s (r ∷ rs) → test s ≡ true → refusal_number r ≤ refusal_number s
least_here test r rs all s (inl e) holds = let P : Refusal → Type 0 = λ q. refusal_number r ≤ refusal_number q in let same : refusal_number r ≤ refusal_number r = omega arith in subst P (sym e) same
least_here test r rs all s (inr is) holds = from_here (refusal_number r) rs s all is

least_later : (test : Refusal → Bool) (found r : Refusal) (rs : List Refusal) → test r ≡ false → ((s : Refusal) → In s rs → test s ≡ true → refusal_number found ≤ refusal_number s)
    → (s : Refusal) → In s (r ∷ rs) → test s ≡ true → refusal_number found ≤ refusal_number s
least_later test found r rs off later s (inl e) holds = let bad : true ≡ false = sym holds ∙ ap test e ∙ off in absurd cc
least_later test found r rs off later s (inr is) holds = later s is holds

-- in a list whose numbers rise, the first refusal that passes the test has the least number of
-- those that pass
found_by : (test : Refusal → Bool) (rs : List Refusal) (r : Refusal) → rise rs ≡ true → first_of test rs ≡ Some r → IsFound test rs r
found_by test [] r up e = absurd cc
found_by test (x ∷ rs) r up e = go (test x) refl e (found_by test rs r (both (all_from (refusal_number x) rs) (rise rs) up).1)
  where
    go : (b : Bool) → test x ≡ b → cond b (Some x) (first_of test rs) ≡ Some r → (first_of test rs ≡ Some r → IsFound test rs r) → IsFound test (x ∷ rs) r
    go true is found later =
        let same : x ≡ r = cc in
        let here : IsFound test (x ∷ rs) x = (is, least_here test x rs (both (all_from (refusal_number x) rs) (rise rs) up).0) in
        subst (IsFound test (x ∷ rs)) same here
    go false is found later = let p = later found in (p.0, least_later test r x rs is p.1)

-- if the search finds none, no refusal of the list passes
none_by : (test : Refusal → Bool) (rs : List Refusal) → first_of test rs ≡ None → (s : Refusal) → In s rs → test s ≡ true → ⊥
none_by test [] e s is holds = is
none_by test (x ∷ rs) e s is holds = go (test x) refl e is (none_by test rs)
  where
    go : (b : Bool) → test x ≡ b → cond b (Some x) (first_of test rs) ≡ None → In s (x ∷ rs) → (first_of test rs ≡ None → (s : Refusal) → In s rs → test s ≡ true → ⊥) → ⊥
    go true at found m later = absurd cc
    go false at found (inl same) later = let bad : true ≡ false = sym holds ∙ ap test same ∙ at in absurd cc
    go false at found (inr m) later = later found s m holds

-- every refusal is in the order: a new refusal needs its line here and in `order`
each_in : (s : Refusal) → In s order
each_in TooManyDigits = inl refl
each_in BadCharacter = inr (inl refl)
each_in NoNumber = inr (inr (inl refl))
each_in OpenComment = inr (inr (inr (inl refl)))
each_in NoProgramNumber = inr (inr (inr (inr (inl refl))))
each_in NoEnd = inr (inr (inr (inr (inr (inl refl)))))
each_in LineTooLong = inr (inr (inr (inr (inr (inr (inl refl))))))
each_in TooManyBlocks = inr (inr (inr (inr (inr (inr (inr (inl refl)))))))
each_in TapeTooLong = inr (inr (inr (inr (inr (inr (inr (inr (inl refl))))))))
each_in WordRange = inr (inr (inr (inr (inr (inr (inr (inr (inr (inl refl)))))))))

-- the test tells which conditions hold at this line behind these
pub record Tells (skips : ℕ) (front : List Line) (line : Line) (test : Refusal → Bool) : Type 0 where
  -- a condition that holds passes the test
  pub told : (r : Refusal) → Holds skips front line r → test r ≡ true
  -- the condition of a refusal that passes the test holds
  pub holds : (r : Refusal) → test r ≡ true → Holds skips front line r

-- the first refusal that such a test finds is the least whose condition holds
pub tells_least : (skips : ℕ) (front : List Line) (line : Line) (test : Refusal → Bool) (r : Refusal) → Tells skips front line test → first_of test order ≡ Some r → IsLeast skips front line r
tells_least skips front line test r tells e =
    let p = found_by test order r refl e in (tells.holds r p.0, λ other holds. p.1 other (each_in other) (tells.told other holds))

-- if such a test finds none, no condition holds
pub tells_none : (skips : ℕ) (front : List Line) (line : Line) (test : Refusal → Bool) → Tells skips front line test → first_of test order ≡ None → (r : Refusal) → Holds skips front line r → ⊥
tells_none skips front line test tells e r holds = none_by test order e r (each_in r) (tells.told r holds)
