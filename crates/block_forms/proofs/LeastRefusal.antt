-- Of the refusals that hold of what words say the least is answered, since they are tested in the
-- order of their numbers. For the law `the_least_refusal_is_answered` (src/laws.rt), and for
-- LeastOfText.
use Rattle.std.proofs.Common.{◌≡◌, ℕ, ◌≤◌, nat_le, Bool, true, false, cond, ◌&&◌, ◌⊎◌, inl, inr, List, [], ◌∷◌, Option, Some, None, ◌↔◌, refl, sym, ◌∙◌, ap, arith, lit≤}
use Rattle.std.specs.List.{find, list_all}
use Rattle.nc_number.specs.Causes.{cause_number}
use Rattle.nc_number.specs.declared.cause.Cause.{Cause}
use Rattle.nc_number.specs.declared.cause.Cause.TheVariants.{NotFixed, UnknownCode, WaitNotAlone, WaitPaths, TwoM, BadCall, AxisTwice, WordRange}
use Rattle.nc_number.proofs.Bools.{both}
use Rattle.nc_number.proofs.Counts.{true_le}
use Rattle.nc_number.proofs.CauseTable.{number_has_one_cause}
use Rattle.block_words.specs.declared.dialect.Dialect.{Dialect}
use Rattle.block_words.specs.declared.word.FlowWord.{FlowWord}
use Rattle.block_forms.specs.Refusals.{Refuses, not_fixed, unknown, not_alone, others, two_m, bad_call, axis_twice, out_of_range, IsLeast, is_not_fixed, is_unknown, is_wait_not_alone, is_wait_of_others, has_two_m, is_bad_call, has_axis_twice, is_out_of_range, refusal_of}

-- The test of a refusal on the block.
abbrev holds_of : Dialect → List FlowWord → Cause → Bool
holds_of dialect words NotFixed = is_not_fixed dialect words
holds_of dialect words UnknownCode = is_unknown dialect.system words
holds_of dialect words WaitNotAlone = is_wait_not_alone dialect words
holds_of dialect words WaitPaths = is_wait_of_others dialect words
holds_of dialect words TwoM = has_two_m dialect.system words
holds_of dialect words BadCall = is_bad_call dialect words
holds_of dialect words AxisTwice = has_axis_twice dialect.system words
holds_of dialect words WordRange = is_out_of_range dialect words
holds_of dialect words _ = false

-- The refusals in the order of their numbers: 54, 56, 57, 58, 59, 61, 62 and 64.
abbrev in_order : List Cause
in_order = NotFixed ∷ UnknownCode ∷ WaitNotAlone ∷ WaitPaths ∷ TwoM ∷ BadCall ∷ AxisTwice ∷ WordRange ∷ []

-- The refusal stands in this list.
abbrev IsAmong : Cause → List Cause → Type 0
IsAmong cause [] = ⊥
IsAmong cause (x ∷ xs) = (cause ≡ x) ⊎ IsAmong cause xs

-- Each refusal of the list has a number no greater than those behind it.
abbrev rises : List Cause → Bool
rises [] = true
rises (x ∷ xs) = list_all (λ cause. nat_le (cause_number x) (cause_number cause)) xs && rises xs

-- A refusal that holds passes its test, and is one of the list.
tests_so : (dialect : Dialect) (words : List FlowWord) (cause : Cause) → Refuses dialect words cause → (holds_of dialect words cause ≡ true) × IsAmong cause in_order
tests_so dialect words _ (not_fixed e) = (e, inl refl)
tests_so dialect words _ (unknown e) = (e, inr (inl refl))
tests_so dialect words _ (not_alone e) = (e, inr (inr (inl refl)))
tests_so dialect words _ (others e) = (e, inr (inr (inr (inl refl))))
tests_so dialect words _ (two_m e) = (e, inr (inr (inr (inr (inl refl)))))
tests_so dialect words _ (bad_call e) = (e, inr (inr (inr (inr (inr (inl refl))))))
tests_so dialect words _ (axis_twice e) = (e, inr (inr (inr (inr (inr (inr (inl refl)))))))
tests_so dialect words _ (out_of_range e) = (e, inr (inr (inr (inr (inr (inr (inr (inl refl))))))))

-- A refusal that passes its test holds.
refuses_so : (dialect : Dialect) (words : List FlowWord) (cause : Cause) → holds_of dialect words cause ≡ true → Refuses dialect words cause
refuses_so dialect words NotFixed e = not_fixed e
refuses_so dialect words UnknownCode e = unknown e
refuses_so dialect words WaitNotAlone e = not_alone e
refuses_so dialect words WaitPaths e = others e
refuses_so dialect words TwoM e = two_m e
refuses_so dialect words BadCall e = bad_call e
refuses_so dialect words AxisTwice e = axis_twice e
refuses_so dialect words WordRange e = out_of_range e
refuses_so dialect words _ e = absurd (cc)

-- A number that is at most each of the list is at most any of it.
all_at_least : (n : ℕ) (xs : List Cause) → list_all (λ cause. nat_le n (cause_number cause)) xs ≡ true → (other : Cause) → IsAmong other xs → n ≤ cause_number other
all_at_least n [] all other among = absurd among
all_at_least n (x ∷ xs) all other (inl e) =
    let first : nat_le n (cause_number x) ≡ true = (both _ _ all).0 in
    rw e (true_le n (cause_number x) first)
all_at_least n (x ∷ xs) all other (inr later) = all_at_least n xs (both _ _ all).1 other later

-- The first of a rising list that holds is the least that holds.
first_is_least : (p : Cause → Bool) (xs : List Cause) (cause : Cause) → rises xs ≡ true → find p xs ≡ Some cause → (p cause ≡ true) × ((other : Cause) → IsAmong other xs → p other ≡ true → cause_number cause ≤ cause_number other)
first_is_least p [] cause rise found = absurd (cc)
first_is_least p (x ∷ xs) cause rise found =
    go (p x) refl (both _ _ rise).0 (first_is_least p xs cause (both _ _ rise).1) found
  where
    this : (b : Bool) → p x ≡ b → list_all (λ later. nat_le (cause_number x) (cause_number later)) xs ≡ true → (other : Cause) → IsAmong other (x ∷ xs) → cause_number x ≤ cause_number other
    this b e all other (inl same) = rw same (omega arith)
    this b e all other (inr later) = all_at_least (cause_number x) xs all other later

    behind : p x ≡ false → ((other : Cause) → IsAmong other xs → p other ≡ true → cause_number cause ≤ cause_number other) → (other : Cause) → IsAmong other (x ∷ xs) → p other ≡ true → cause_number cause ≤ cause_number other
    behind e rest other (inl same) holds =
        let fails : p other ≡ false = rw same e in
        let never : true ≡ false = sym holds ∙ fails in
        absurd (cc)
    behind e rest other (inr later) holds = rest other later holds

    go : (b : Bool) → p x ≡ b → list_all (λ later. nat_le (cause_number x) (cause_number later)) xs ≡ true → (find p xs ≡ Some cause → (p cause ≡ true) × ((other : Cause) → IsAmong other xs → p other ≡ true → cause_number cause ≤ cause_number other)) → cond b (Some x) (find p xs) ≡ Some cause → (p cause ≡ true) × ((other : Cause) → IsAmong other (x ∷ xs) → p other ≡ true → cause_number cause ≤ cause_number other)
    go true e all rest found =
        let same : x ≡ cause = cc in
        rw (← same) (e, λ other among holds. this true e all other among)
    go false e all rest found = ((rest found).0, behind e (rest found).1)

-- If no refusal of the list is found, none of the list holds.
none_holds : (p : Cause → Bool) (xs : List Cause) → find p xs ≡ None → (other : Cause) → IsAmong other xs → p other ≡ true → ⊥
none_holds p [] none other among holds = among
none_holds p (x ∷ xs) none other among holds =
    go (p x) refl none among (λ fails later. none_holds p xs fails other later holds)
  where
    go : (b : Bool) → p x ≡ b → cond b (Some x) (find p xs) ≡ None → IsAmong other (x ∷ xs) → (find p xs ≡ None → IsAmong other xs → ⊥) → ⊥
    go true e none among rest = absurd (cc)
    go false e none (inl same) rest =
        let fails : p other ≡ false = rw same e in
        let never : true ≡ false = sym holds ∙ fails in
        absurd (cc)
    go false e none (inr later) rest = rest none later

-- If no refusal holds, none of the list is found.
none_found : (p : Cause → Bool) (xs : List Cause) → ((other : Cause) → p other ≡ true → ⊥) → find p xs ≡ None
none_found p [] never = refl
none_found p (x ∷ xs) never = go (p x) refl (none_found p xs never)
  where
    go : (b : Bool) → p x ≡ b → find p xs ≡ None → cond b (Some x) (find p xs) ≡ None
    go true e rest = absurd (never x e)
    go false e rest = rest

-- The refusal of the definition is the first of the list that holds.
is_the_first : (dialect : Dialect) (words : List FlowWord) → refusal_of dialect words ≡ find (holds_of dialect words) in_order
is_the_first dialect words = refl

-- The refusal that is answered is the least that holds.
answered_is_least : (dialect : Dialect) (words : List FlowWord) (cause : Cause) → refusal_of dialect words ≡ Some cause → IsLeast dialect words cause
answered_is_least dialect words cause answered =
    let first = first_is_least (holds_of dialect words) in_order cause refl (sym (is_the_first dialect words) ∙ answered) in
    record {
      holds = refuses_so dialect words cause first.0;
      least = λ other refuses. let so = tests_so dialect words other refuses in first.1 other so.1 so.0;
    }

-- The least refusal that holds is answered.
least_is_answered : (dialect : Dialect) (words : List FlowWord) (cause : Cause) → IsLeast dialect words cause → refusal_of dialect words ≡ Some cause
least_is_answered dialect words cause is = go (refusal_of dialect words) refl
  where
    go : (answer : Option Cause) → refusal_of dialect words ≡ answer → answer ≡ Some cause
    go None e =
        let so = tests_so dialect words cause is.holds in
        absurd (none_holds (holds_of dialect words) in_order (sym (is_the_first dialect words) ∙ e) cause so.1 so.0)
    go (Some own) e =
        let first = answered_is_least dialect words own e in
        let below : cause_number own ≤ cause_number cause = first.least cause is.holds in
        let above : cause_number cause ≤ cause_number own = is.least own first.holds in
        let same : cause_number own ≡ cause_number cause = omega arith in
        ap Some (number_has_one_cause own cause same)

-- A refusal is answered exactly if it is the least that holds.
pub least_refusal : (dialect : Dialect) (words : List FlowWord) (cause : Cause) → (refusal_of dialect words ≡ Some cause) ↔ IsLeast dialect words cause
least_refusal dialect words cause = (answered_is_least dialect words cause, least_is_answered dialect words cause)

-- No refusal is answered exactly if none holds.
pub no_refusal : (dialect : Dialect) (words : List FlowWord) → (refusal_of dialect words ≡ None) ↔ ((cause : Cause) → ¬ (Refuses dialect words cause))
no_refusal dialect words = (
  λ none cause refuses. let so = tests_so dialect words cause refuses in none_holds (holds_of dialect words) in_order (sym (is_the_first dialect words) ∙ none) cause so.1 so.0,
  λ never. is_the_first dialect words ∙ none_found (holds_of dialect words) in_order (λ other holds. never other (refuses_so dialect words other holds)),
)

-- A refusal of what the words say has a number of at least 25.
pub refusal_above_25 : (dialect : Dialect) (words : List FlowWord) (cause : Cause) → Refuses dialect words cause → 25 ≤ cause_number cause
refusal_above_25 dialect words _ (not_fixed e) = lit≤ tt
refusal_above_25 dialect words _ (unknown e) = lit≤ tt
refusal_above_25 dialect words _ (not_alone e) = lit≤ tt
refusal_above_25 dialect words _ (others e) = lit≤ tt
refusal_above_25 dialect words _ (two_m e) = lit≤ tt
refusal_above_25 dialect words _ (bad_call e) = lit≤ tt
refusal_above_25 dialect words _ (axis_twice e) = lit≤ tt
refusal_above_25 dialect words _ (out_of_range e) = lit≤ tt
