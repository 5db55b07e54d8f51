-- The ENDs and the innermost loops that src/loops.rt notes, one block further. For the proofs of
-- that file, and MoreTables.
use Rattle.std.proofs.Common.{◌≡◌, ◌≢◌, ℕ, zero, suc, ◌<◌, ◌↔◌, List, [], ◌∷◌, ◌++◌, length, get_or, set, Option, Some, None, refl, sym, ap, ◌∙◌, arith, subst, ⊎_elim}
use Rattle.std.specs.List.{slice_get}
use Rattle.std.proofs.lemmas.Bool.{cases_eq}
use Rattle.block_order.specs.declared.control.Control.{Control}
use Rattle.block_order.specs.declared.control.Control.TheVariants.{Next, Goto, While, Do, EndLoop, Wait, End, Call, Back, BackTo}
use Rattle.block_order.specs.declared.program.ControlBlock.{ControlBlock}
use Rattle.block_order.specs.Order.{control_at, head_name, IsLoop}
use Rattle.block_order.specs.Loops.{Open, open_behind, open_before, places, latest}
use Rattle.block_order.specs.Fitting.{Fits, innermost, IsInside, IsEnds}
use Rattle.block_order.proofs.Opened.{Kind, opening, closing, plain, kind, open_more, at-control, end-closes, open_after_end-head}
use Rattle.block_order.proofs.Searches.{loop_facts, loop_unique}

-- A control that is neither a head nor an END leaves the open loops as they are.
pub plain-control : (c : Control) → ((m : ℕ) → c ≢ While m) → ((m : ℕ) → c ≢ Do m) → ((m : ℕ) → c ≢ EndLoop m)
    → (p : ℕ) (loops : List Open) → open_behind p c loops ≡ loops
plain-control (While m) f g h p loops = absurd (f m refl)
plain-control (Do m) f g h p loops = absurd (g m refl)
plain-control (EndLoop m) f g h p loops = absurd (h m refl)
plain-control Next f g h p loops = refl
plain-control (Goto n) f g h p loops = refl
plain-control (Wait code) f g h p loops = refl
plain-control End f g h p loops = refl
plain-control (Call program repeats) f g h p loops = refl
plain-control Back f g h p loops = refl
plain-control (BackTo n) f g h p loops = refl

-- A block that is no END adds none to the ENDs that are noted.
pub ends-stay : (bs : List ControlBlock) (i : ℕ) (ends : List (Option ℕ)) (c : Control) → control_at bs i ≡ Some c
    → ((m : ℕ) → c ≢ EndLoop m) → IsEnds bs i ends → IsEnds bs (suc i) ends
ends-stay bs i ends c at ne known head end = (
  λ e. let w = (known head end).0 e in (w.0, omega (arith, w.1)),
  λ (w : IsLoop bs head end × (end < suc i)). (known head end).1 (
    w.0,
    ⊎_elim
        (λ (same : end ≡ i).
        let loop = loop_facts bs head end w.0 in
        absurd (ne loop.name (at-control bs i c (EndLoop loop.name) at (ap (control_at bs) (sym same) ∙ loop.is_close))))
        (λ (other : end ≢ i). omega (arith, w.1))
        (cases_eq end i),
  ),
)

-- Behind a head its loop is the innermost.
pub behind-head : (bs : List ControlBlock) (i n : ℕ) (c : Control) → control_at bs i ≡ Some c → head_name (Some c) ≡ Some n
    → innermost bs (suc i) ≡ Some i
behind-head bs i n c at is = go (kind c) where
  go : Kind c → innermost bs (suc i) ≡ Some i
  go (opening m named push other) = ap (λ ls. latest (places ls)) (open_more bs i c at ∙ push i (open_before bs i))
  go (closing m e) = let k : None ≡ Some n = sym (ap (λ d. head_name (Some d)) e) ∙ is in absurd cc
  go (plain none same other) = let k : None ≡ Some n = sym none ∙ is in absurd cc

-- Behind a plain block the innermost loop stays.
pub behind-plain : (bs : List ControlBlock) (i : ℕ) (c : Control) → control_at bs i ≡ Some c
    → ((p : ℕ) (loops : List Open) → open_behind p c loops ≡ loops) → innermost bs (suc i) ≡ innermost bs i
behind-plain bs i c at same = ap (λ ls. latest (places ls)) (open_more bs i c at ∙ same i (open_before bs i))

-- An entry that was set is read back.
get-set-same : {X : Type 0} (xs : List X) (i : ℕ) (x : X) → i < length xs → slice_get (set xs i x) i ≡ Some x
get-set-same (y ∷ ys) zero x l = refl
get-set-same (y ∷ ys) (suc i) x l = get-set-same ys i x (omega arith)
get-set-same [] i x l = absurd (omega arith)

-- To set an entry leaves the others as they are.
get-set-other : {X : Type 0} (xs : List X) (i j : ℕ) (x : X) → j ≢ i → slice_get (set xs i x) j ≡ slice_get xs j
get-set-other [] i j x ne = refl
get-set-other (y ∷ ys) zero zero x ne = absurd (ne refl)
get-set-other (y ∷ ys) zero (suc j) x ne = refl
get-set-other (y ∷ ys) (suc i) zero x ne = refl
get-set-other (y ∷ ys) (suc i) (suc j) x ne = get-set-other ys i j x (λ e. ne (ap (λ k. suc k) e))

-- With an END noted at the head of the innermost loop the list has the ENDs up to this block.
pub ends-noted : (bs : List ControlBlock) (i n h : ℕ) (ends : List (Option ℕ)) → Fits bs
    → control_at bs i ≡ Some (EndLoop n) → innermost bs i ≡ Some h → i < length ends → IsEnds bs i ends
    → IsEnds bs (suc i) (set ends h (Some i))
ends-noted bs i n h ends fits at top long known head end =
    ⊎_elim
    (λ (same : head ≡ h).
    subst
    (λ (x : ℕ). (slice_get (set ends h (Some i)) x ≡ Some (Some end)) ↔ (IsLoop bs x end × (end < suc i)))
    (sym same) here)
    (λ (other : head ≢ h). there other)
    (cases_eq head h)
  where
    closes : IsLoop bs h i
    closes =
        let w = end-closes bs i n fits at in
        let e : Some w.0 ≡ Some h = sym w.1 ∙ top in
        let k : w.0 ≡ h = cc in
        subst (λ (x : ℕ). IsLoop bs x i) k w.3

    here : (slice_get (set ends h (Some i)) h ≡ Some (Some end)) ↔ (IsLoop bs h end × (end < suc i))
    here =
        let set_here : slice_get (set ends h (Some i)) h ≡ Some (Some i) =
        get-set-same ends h (Some i) (omega (arith, (loop_facts bs h i closes).order)) in (
          λ e.
              let f : Some (Some i) ≡ Some (Some end) = sym set_here ∙ e in
              let k : i ≡ end = cc in
              (subst (IsLoop bs h) k closes, omega arith),
          λ w. set_here ∙ ap (λ x. Some (Some x)) (loop_unique bs h i end closes w.0),
        )

    there : head ≢ h → (slice_get (set ends h (Some i)) head ≡ Some (Some end)) ↔ (IsLoop bs head end × (end < suc i))
    there other =
        let same = get-set-other ends h head (Some i) other in (
          λ e. let w = (known head end).0 (sym same ∙ e) in (w.0, omega (arith, w.1)),
          λ (w : IsLoop bs head end × (end < suc i)). same ∙ (known head end).1 (
            w.0,
            ⊎_elim
                (λ (is : end ≡ i).
                let e : Some head ≡ Some h = sym (open_after_end-head bs head i fits (subst (IsLoop bs head) is w.0)) ∙ top in
                let k : head ≡ h = cc in absurd (other k))
                (λ (ne : end ≢ i). omega (arith, w.1))
                (cases_eq end i),
          ),
        )

-- Behind an END the innermost loop is the one that was so before its head.
pub behind-end : (bs : List ControlBlock) (i n h : ℕ) → Fits bs → control_at bs i ≡ Some (EndLoop n) → innermost bs i ≡ Some h
    → (h < i) × (innermost bs (suc i) ≡ innermost bs h)
behind-end bs i n h fits at top =
    let w = end-closes bs i n fits at in
    let e : Some w.0 ≡ Some h = sym w.1 ∙ top in
    let k : w.0 ≡ h = cc in
    (omega (arith, w.2), ap (λ ls. latest (places ls)) w.4 ∙ ap (innermost bs) k)

-- At an END of a program that fits a loop is open.
pub some-closed : (bs : List ControlBlock) (i n : ℕ) → Fits bs → control_at bs i ≡ Some (EndLoop n) → innermost bs i ≡ None → ⊥
some-closed bs i n fits at none = let w = end-closes bs i n fits at in let e : Some w.0 ≡ None = sym w.1 ∙ none in absurd cc

-- An entry pushed behind a list is read at its end.
pub get-push-here : {X : Type 0} (xs : List X) (x : X) (i : ℕ) → length xs ≡ i → slice_get (xs ++ x ∷ []) i ≡ Some x
get-push-here [] x zero e = refl
get-push-here [] x (suc i) e = absurd (omega arith)
get-push-here (y ∷ ys) x zero e = absurd (omega arith)
get-push-here (y ∷ ys) x (suc i) e = get-push-here ys x i (omega arith)

-- At every other place an entry that is pushed changes nothing.
pub get-push-other : {X : Type 0} (xs : List X) (x : X) (i : ℕ) → i ≢ length xs → slice_get (xs ++ x ∷ []) i ≡ slice_get xs i
get-push-other [] x zero ne = absurd (ne refl)
get-push-other [] x (suc i) ne = refl
get-push-other (y ∷ ys) x zero ne = refl
get-push-other (y ∷ ys) x (suc i) ne = get-push-other ys x i (λ e. ne (ap (λ k. suc k) e))

-- The list with one place more, at which no END is noted, still has just the ENDs so far.
pub ends-pushed : (bs : List ControlBlock) (i : ℕ) (ends : List (Option ℕ)) → length ends ≡ i → IsEnds bs i ends
    → IsEnds bs i (ends ++ None ∷ [])
ends-pushed bs i ends long known head end =
    ⊎_elim
    (λ (same : head ≡ length ends).
    let here : slice_get (ends ++ None ∷ []) head ≡ Some None = get-push-here ends None head (sym same) in (
      λ e. let f : Some None ≡ Some (Some end) = sym here ∙ e in absurd cc,
      λ (w : IsLoop bs head end × (end < i)). absurd (omega (arith, (loop_facts bs head end w.0).order, w.1)),
    ))
    (λ (other : head ≢ length ends).
    let same = get-push-other ends None head other in
    (λ e. (known head end).0 (sym same ∙ e), λ w. same ∙ (known head end).1 w))
    (cases_eq head (length ends))

-- The list with the innermost loop of one place more has that of each place so far.
pub inside-pushed : (bs : List ControlBlock) (i : ℕ) (inside : List (Option ℕ)) → length inside ≡ i → IsInside bs i inside
    → IsInside bs (suc i) (inside ++ innermost bs i ∷ [])
inside-pushed bs i inside long known place l =
    ⊎_elim
    (λ (same : place ≡ i).
    get-push-here inside (innermost bs i) place (omega arith) ∙ ap (λ k. Some (innermost bs k)) (sym same))
    (λ (other : place ≢ i). get-push-other inside (innermost bs i) place (omega arith) ∙ known place (omega arith))
    (cases_eq place i)

-- Before the first block the empty list has all ENDs so far.
pub none-noted : (bs : List ControlBlock) → IsEnds bs 0 []
none-noted bs head end = (λ e. absurd cc, λ w. absurd (omega (arith, w.1)))

-- The control at a place within the program is that of its block.
pub control-get : (bs : List ControlBlock) (i : ℕ) (d : ControlBlock) → i < length bs
    → control_at bs i ≡ Some (get_or bs i d).control
control-get (b ∷ bs) zero d l = refl
control-get (b ∷ bs) (suc i) d l = control-get bs i d (omega arith)
control-get [] i d l = absurd (omega arith)
