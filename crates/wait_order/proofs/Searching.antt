-- Which blocks search alike, the numbers of a program's returns, and the searches of a tape, each
-- with one block, program or search more. A stretch is the run of blocks up to a mark: a wait, an
-- end, an M99 without a number, or a loud call. A loud program comes to a wait or an end, itself or
-- by its calls; the others are quiet. For the proofs of src/search.rt, src/searches.rt and
-- src/view.rt, and for Strayed.
use Rattle.std.proofs.Common.{◌≡◌, ℕ, zero, suc, ◌+◌, ◌⊎◌, inl, inr, Bool, true, false, ◌||◌, ◌==◌, List, [], ◌∷◌, ◌++◌, length, Option, Some, None, slice_get, refl, ap, sym, subst, ◌∙◌, arith}
use Rattle.std.specs.List.{list_any}
use Rattle.std.proofs.lemmas.Bool.Decides.{nat_tests}
use Rattle.nc_number.proofs.Bools.{or_true}
use Rattle.nc_number.proofs.Counts.{equal, last_or_before}
use Rattle.block_order.specs.declared.control.Control.{Control}
use Rattle.block_order.specs.declared.control.Control.TheVariants.{Next, Goto, While, Do, EndLoop, Wait, End, Call, Back, BackTo}
use Rattle.block_order.specs.declared.program.ControlBlock.{ControlBlock}
use Rattle.block_order.specs.declared.program.ControlProgram.{ControlProgram}
use Rattle.wait_order.specs.declared.search.Search.{Search}
use Rattle.wait_order.specs.declared.search.Search.TheVariants.{Computed}
use Rattle.block_order.specs.Order.{blocks, control_at}
use Rattle.wait_order.specs.Searchers.{is_searcher, is_sought, is_computed, is_call_of, is_back_to, has_back_to, IsSearcherAt}
use Rattle.wait_order.specs.Searches.{IsLongQuiet, IsCallSearch, IsReturnSearch, HasReturnSearch, AreSearchesBelow, IsSearchStrayBelow}
use Rattle.wait_order.specs.Waiting.{HasBack, IsSearchStray, IsLeast}
use Rattle.nc_number.specs.Options.{lesser}
use Rattle.wait_order.proofs.Least.{least_none, least_either}

-- A control that passes the test is a GOTO to a calculated number.
pub computed_is : (c : Control) → is_computed c ≡ true → c ≡ Goto None
computed_is (Goto None) e = refl
computed_is (Goto (Some n)) e = absurd cc
computed_is Next e = absurd cc
computed_is (While m) e = absurd cc
computed_is (Do m) e = absurd cc
computed_is (EndLoop m) e = absurd cc
computed_is (Wait code) e = absurd cc
computed_is End e = absurd cc
computed_is (Call p r) e = absurd cc
computed_is Back e = absurd cc
computed_is (BackTo n) e = absurd cc

-- A control that passes the test is a call of that program.
pub call_is : (called : ℕ) (c : Control) → is_call_of called c ≡ true → (repeats : ℕ) × (c ≡ Call called repeats)
call_is called (Call p r) e = (r, ap (λ k. Call k r) (equal p called e))
call_is called (Goto n) e = absurd cc
call_is called Next e = absurd cc
call_is called (While m) e = absurd cc
call_is called (Do m) e = absurd cc
call_is called (EndLoop m) e = absurd cc
call_is called (Wait code) e = absurd cc
call_is called End e = absurd cc
call_is called Back e = absurd cc
call_is called (BackTo n) e = absurd cc

-- A control that passes the test is an M99 with that number.
back_is : (n : ℕ) (c : Control) → is_back_to n c ≡ true → c ≡ BackTo n
back_is n (BackTo own) e = ap (λ k. BackTo k) (sym (equal n own e))
back_is n (Call p r) e = absurd cc
back_is n (Goto m) e = absurd cc
back_is n Next e = absurd cc
back_is n (While m) e = absurd cc
back_is n (Do m) e = absurd cc
back_is n (EndLoop m) e = absurd cc
back_is n (Wait code) e = absurd cc
back_is n End e = absurd cc
back_is n Back e = absurd cc

-- Each number equals itself.
pub same_as_itself : (a : ℕ) → (a == a) ≡ true
same_as_itself a = grind (arith, nat_tests)

-- Blocks that pass the test have an M99 with that number.
pub has_back : (bs : List ControlBlock) (n : ℕ) → has_back_to bs n ≡ true → HasBack bs n
has_back [] n e = absurd cc
has_back (b ∷ bs) n e = go (λ h. has_back bs n h) (is_back_to n b.control) refl
  where
    go : (has_back_to bs n ≡ true → HasBack bs n) → (x : Bool) → is_back_to n b.control ≡ x → HasBack (b ∷ bs) n
    go behind true y = (0, ap (λ c. Some c) (back_is n b.control y))
    go behind false y =
        let rest : has_back_to bs n ≡ true = ap (λ x. x || has_back_to bs n) (sym y) ∙ e in
        let r = behind rest in
        (suc r.0, r.1)

-- Blocks with an M99 of that number pass the test.
pub back_has : (bs : List ControlBlock) (n inner : ℕ) → control_at bs inner ≡ Some (BackTo n) → has_back_to bs n ≡ true
back_has [] n inner e = absurd cc
back_has (b ∷ bs) n zero e =
    let same : b.control ≡ BackTo n = cc in
    let here : is_back_to n b.control ≡ true = ap (λ c. is_back_to n c) same ∙ same_as_itself n in
    rw here refl
back_has (b ∷ bs) n (suc inner) e =
    let rest : has_back_to bs n ≡ true = back_has bs n inner e in
    rw rest (or_true (is_back_to n b.control))

-- If a block at some place searches, one among the blocks does.
any_searcher : (q : Control → Bool) (bs : List ControlBlock) (place : ℕ) → IsSearcherAt q bs place
    → list_any (λ b. q b.control) bs ≡ true
any_searcher q [] place (c, at, is) = absurd cc
any_searcher q (b ∷ bs) zero (c, at, is) =
    let same : b.control ≡ c = cc in
    let here : q b.control ≡ true = ap q same ∙ is in
    rw here refl
any_searcher q (b ∷ bs) (suc place) (c, at, is) = rw (any_searcher q bs place (c, at, is)) (or_true (q b.control))

-- A list with one entry more has its old entries and the new one.
get_push : {X : Type 0} (xs : List X) (y x : X) (i : ℕ) → slice_get (xs ++ y ∷ []) i ≡ Some x → (slice_get xs i ≡ Some x) ⊎ (x ≡ y)
get_push [] y x zero e = inr (let same : y ≡ x = cc in sym same)
get_push [] y x (suc i) e = absurd cc
get_push (z ∷ xs) y x zero e = inl e
get_push (z ∷ xs) y x (suc i) e = get_push xs y x i e

-- A list with one entry more keeps its old entries.
get_kept : {X : Type 0} (xs : List X) (y x : X) (i : ℕ) → slice_get xs i ≡ Some x → slice_get (xs ++ y ∷ []) i ≡ Some x
get_kept [] y x i e = absurd cc
get_kept (z ∷ xs) y x zero e = e
get_kept (z ∷ xs) y x (suc i) e = get_kept xs y x i e

-- The last entry of a list with one entry more is the new one.
get_last : {X : Type 0} (xs : List X) (y : X) → slice_get (xs ++ y ∷ []) (length xs) ≡ Some y
get_last [] y = refl
get_last (z ∷ xs) y = get_last xs y

-- One place has one program.
same_program : (tape : List ControlProgram) (i n : ℕ) (p q : ControlProgram) → slice_get tape n ≡ Some p → slice_get tape i ≡ Some q
    → i ≡ n → q ≡ p
same_program tape i n p q at is e =
    let both : Some q ≡ Some p = sym is ∙ (ap (λ k. slice_get tape k) e ∙ at) in
    cc

-- If one program more is a long quiet one, and the search of its calls is added, the searches are
-- those of the first n + 1.
pub searches_more : (tape : List ControlProgram) (n : ℕ) (p : ControlProgram) (searches : List Search) (search : Search)
    → slice_get tape n ≡ Some p → IsLongQuiet tape p.number → IsCallSearch p.number (blocks tape p.number) search
    → AreSearchesBelow tape n searches → AreSearchesBelow tape (n + 1) (searches ++ search ∷ [])
searches_more tape n p searches search at long serves are = record {
  each = λ i s e. each i s (get_push searches search s i e);
  computed = (are.computed.0, get_kept searches search Computed are.computed.0 are.computed.1);
  calls = λ i q below is so. elim (last_or_before i n below) [
    | inl e ↦ subst (λ x. HasReturnSearch tape x.number (searches ++ search ∷ [])) (sym (same_program tape i n p q at is e)) here
    | inr less ↦ kept q.number (are.calls i q less is so)
  ];
}
  where
    own : IsReturnSearch tape p.number search
    own = record { program = long; serves = serves }

    here : HasReturnSearch tape p.number (searches ++ search ∷ [])
    here = (length searches, search, get_last searches search, own)

    kept : (called : ℕ) → HasReturnSearch tape called searches → HasReturnSearch tape called (searches ++ search ∷ [])
    kept called (i, s, e, is) = (i, s, get_kept searches search s i e, is)

    each : (i : ℕ) (s : Search) → (slice_get searches i ≡ Some s) ⊎ (s ≡ search)
        → (s ≡ Computed) ⊎ ((called : ℕ) × IsReturnSearch tape called s)
    each i s (inl e) = are.each i s e
    each i s (inr e) = inr (p.number, subst (λ x. IsReturnSearch tape p.number x) (sym e) own)

-- The lesser of the first blocks of the first i searches and of one more is that of the first i +
-- 1.
pub least_search : (ld : ℕ → Bool) (bs : List ControlBlock) (searches : List Search) (i : ℕ) (s : Search) (a b : Option ℕ)
    → slice_get searches i ≡ Some s → IsLeast (IsSearchStrayBelow ld searches i bs) a
    → IsLeast (IsSearchStray ld (is_searcher s) (is_sought s) bs) b
    → IsLeast (IsSearchStrayBelow ld searches (i + 1) bs) (lesser a b)
least_search ld bs searches i s a b at l r =
    least_either {R = IsSearchStrayBelow ld searches (i + 1) bs} a b l r (λ n h. (let below = h.2 in (h.0, h.1, omega arith, h.3, h.4)))
    (λ n h. (i, s, omega arith, at, h)) either
  where
    here : (n t : ℕ) (q : Search) → slice_get searches t ≡ Some q → IsSearchStray ld (is_searcher q) (is_sought q) bs n → t ≡ i
        → IsSearchStray ld (is_searcher s) (is_sought s) bs n
    here n t q is h e =
        let both : Some q ≡ Some s = sym is ∙ (ap (λ k. slice_get searches k) e ∙ at) in
        let same : q ≡ s = cc in
        subst (λ x. IsSearchStray ld (is_searcher x) (is_sought x) bs n) same h

    either : (n : ℕ) → IsSearchStrayBelow ld searches (i + 1) bs n
        → IsSearchStrayBelow ld searches i bs n ⊎ IsSearchStray ld (is_searcher s) (is_sought s) bs n
    either n (t, q, below, is, h) = elim (last_or_before t i below) [
      | inl e ↦ inr (here n t q is h e)
      | inr less ↦ inl (t, q, less, is, h)
    ]

-- If no block searches, none may lead to another stretch by that search.
pub least_unsearched : (ld : ℕ → Bool) (bs : List ControlBlock) (s : Search) → list_any (λ b. is_searcher s b.control) bs ≡ false
    → IsLeast (IsSearchStray ld (is_searcher s) (is_sought s) bs) None
least_unsearched ld bs s e = least_none {P = IsSearchStray ld (is_searcher s) (is_sought s) bs} none
  where
    none : (n : ℕ) → IsSearchStray ld (is_searcher s) (is_sought s) bs n → ⊥
    none n h = let some = any_searcher (is_searcher s) bs n h.0 in absurd (cc)
