-- What the searches for loops and jumps find. For the law `a_loop_ends_at_its_nearest_end`, for the
-- proof of `loop_head` (src/order.rt), and for Faultless, KeepsLabels, Moved, Nested, NotedEnds and
-- Opened.
use Rattle.std.proofs.Common.{◌≡◌, ◌≢◌, ◌↔◌, ℕ, zero, suc, ◌+◌, ◌-◌, ◌<◌, ◌≤◌, inl, inr, Bool, true, false, ◌==◌, ◌&&◌, ◌||◌, not, nat_lt, nat_le, List, [], ◌∷◌, drop, Option, Some, None, Result, Ok, Err, refl, ap, sym, subst, ◌∙◌, arith}
use Rattle.std.proofs.lemmas.Bool.Decides.{nat_tests}
use Rattle.nc_number.specs.declared.cause.Cause.{Cause}
use Rattle.nc_number.specs.declared.cause.Cause.TheVariants.{IntoLoop}
use Rattle.nc_number.proofs.Bools.{both, both_true}
use Rattle.nc_number.specs.Options.{is_some_of}
use Rattle.nc_number.proofs.Counts.{equal, lt_true, true_lt, true_le, last_or_before, some_is}
use Rattle.block_order.specs.declared.control.Control.{Control}
use Rattle.block_order.specs.declared.control.Control.TheVariants.{EndLoop}
use Rattle.block_order.specs.declared.program.ControlBlock.{ControlBlock}
use Rattle.block_order.specs.Order.{control_at, seek, IsLoop, IsPermitted, Leads, head_name, is_end_of, first_end, end_named, end_of_loop, head_below, head_of_loop, is_up_to, holds, permits_below, permits, permitted_target}
use Rattle.block_order.specs.LoopFacts.{LoopFacts, IsHeldToo}

-- Equal numbers test as equal.
true_same : (a b : ℕ) → a ≡ b → (a == b) ≡ true
true_same a b e = grind (arith, nat_tests)

-- A control that passes the test for an END of this name is one.
end-true : (name : ℕ) (c : Control) → is_end_of name c ≡ true → c ≡ EndLoop name
end-true name (EndLoop own) e = ap (λ k. EndLoop k) (equal own name e)
end-true name _ e = absurd cc

-- An END of this name passes the test for it.
true-end : (name : ℕ) (c : Control) → c ≡ EndLoop name → is_end_of name c ≡ true
true-end name c e = rw e (true_same name name refl)

-- The first END of this name among the blocks stands at `close`, and none stands before it.
abbrev FirstEnd : ℕ → List ControlBlock → ℕ → ℕ → Type 0
FirstEnd name bs place close =
    (i : ℕ) × (close ≡ place + i) × (control_at bs i ≡ Some (EndLoop name))
    × ((k : ℕ) → k < i → control_at bs k ≢ Some (EndLoop name))

-- The search finds the first END.
first_end-found : (name : ℕ) (bs : List ControlBlock) (place close : ℕ)
    → first_end name bs place ≡ Some close → FirstEnd name bs place close
first_end-found name [] place close e = absurd cc
first_end-found name (b ∷ bs) place close e =
    go (λ h. first_end-found name bs (suc place) close h) (is_end_of name b.control) refl
  where
    later : is_end_of name b.control ≡ false → (i : ℕ)
        → ((k : ℕ) → k < i → control_at bs k ≢ Some (EndLoop name)) → (k : ℕ) → k < suc i
        → control_at (b ∷ bs) k ≢ Some (EndLoop name)
    later n i before zero lt at =
        absurd (let y : is_end_of name b.control ≡ true = true-end name b.control cc in cc)
    later n i before (suc k) lt at = before k (omega arith) at

    go : (first_end name bs (suc place) ≡ Some close → FirstEnd name bs (suc place) close) → (x : Bool)
        → is_end_of name b.control ≡ x → FirstEnd name (b ∷ bs) place close
    go rest true y =
        let same : Some place ≡ Some close = rw y at e in
        let eq : place ≡ close = cc in
        (0, omega arith, ap (λ x. Some x) (end-true name b.control y), λ k lt. absurd (omega arith))
    go rest false n =
        let r = rest (rw n at e) in
        (suc r.0, (let at' = r.1 in omega arith), r.2, later n r.0 r.3)

-- If an END of the name stands at i and none before it, the search finds it.
first_end-is : (name : ℕ) (bs : List ControlBlock) (place i : ℕ) → control_at bs i ≡ Some (EndLoop name)
    → ((k : ℕ) → k < i → control_at bs k ≢ Some (EndLoop name))
    → first_end name bs place ≡ Some (place + i)
first_end-is name [] place i at before = absurd cc
first_end-is name (b ∷ bs) place zero at before =
    let y : is_end_of name b.control ≡ true = true-end name b.control cc in
    rw y (ap (λ n. Some n) (omega arith))
first_end-is name (b ∷ bs) place (suc i) at before =
    go (first_end-is name bs (suc place) i at (λ k lt. before (suc k) (omega arith)))
    (is_end_of name b.control) refl
  where
    go : first_end name bs (suc place) ≡ Some (suc place + i) → (x : Bool)
        → is_end_of name b.control ≡ x → first_end name (b ∷ bs) place ≡ Some (place + suc i)
    go rest true y = absurd (before 0 (omega arith) (ap (λ x. Some x) (end-true name b.control y)))
    go rest false n = rw n (rest ∙ ap (λ n. Some n) (omega arith))

-- The control at a place of the blocks without the first n is that n places further on.
pub control_drop : (bs : List ControlBlock) (n i : ℕ) → control_at (drop n bs) i ≡ control_at bs (n + i)
control_drop bs zero i = ap (λ k. control_at bs k) (omega arith)
control_drop [] (suc n) i = refl
control_drop (b ∷ bs) (suc n) i =
    control_drop bs n i ∙ (let e : suc (n + i) ≡ suc n + i = omega arith in ap (λ k. control_at (b ∷ bs) k) e)

-- The nearest END is the one that the search finds.
pub nearest_is : (bs : List ControlBlock) (head close : ℕ) → LoopFacts bs head close → IsLoop bs head close
nearest_is bs head close facts =
    let i = close - suc head in
    let e : suc head + i ≡ close = (let o = facts.order in omega arith) in
    rw facts.named
    (first_end-is facts.name (drop (suc head) bs) (suc head) i
    (control_drop bs (suc head) i ∙ (ap (λ k. control_at bs k) e ∙ facts.is_close))
    (λ k lt at. facts.nearest (suc head + k) (omega arith) (let o = facts.order in omega arith)
    (sym (control_drop bs (suc head) k) ∙ at))
    ∙ ap (λ k. Some k) e)

-- A loop that the search finds is as `LoopFacts` says.
pub loop_facts : (bs : List ControlBlock) (head close : ℕ) → IsLoop bs head close → LoopFacts bs head close
loop_facts bs head close loop = go (head_name (control_at bs head)) refl loop
  where
    go : (o : Option ℕ) → head_name (control_at bs head) ≡ o → end_named bs head o ≡ Some close → LoopFacts bs head close
    go None named found = absurd cc
    go (Some name) named found =
        let r = first_end-found name (drop (suc head) bs) (suc head) close found in
        record {
          name = name;
          named = named;
          is_close =
              (let e : suc head + r.0 ≡ close = sym r.1 in
              ap (λ k. control_at bs k) (sym e) ∙ (sym (control_drop bs (suc head) r.0) ∙ r.2));
          order = (let e = r.1 in omega arith);
          nearest = λ b lt lt' at'.
              let k = b - suc head in
              let e : suc head + k ≡ b = omega arith in
              let e' = r.1 in
              r.3 k (omega arith) (control_drop bs (suc head) k ∙ (ap (λ j. control_at bs j) e ∙ at'));
        }

-- A loop is exactly what `LoopFacts` says.
pub loop_nearest : (bs : List ControlBlock) (head close : ℕ) → IsLoop bs head close ↔ LoopFacts bs head close
loop_nearest bs head close = (loop_facts bs head close, nearest_is bs head close)

-- A head has one END.
pub loop_unique : (bs : List ControlBlock) (head a b : ℕ) → IsLoop bs head a → IsLoop bs head b → a ≡ b
loop_unique bs head a b x y = some_is (sym x ∙ y)

-- A number tests as no more than a greater one.
le_true : (a b : ℕ) → a ≤ b → nat_le a b ≡ true
le_true a b h = grind (arith, nat_tests)

-- If a test says that a is false or b true, and a is true, b is true.
implied : (a b : Bool) → (not a || b) ≡ true → a ≡ true → b ≡ true
implied true b e h = e
implied false b e h = absurd cc

-- If b is true whenever a is, the test says that a is false or b true.
implies : (a b : Bool) → (a ≡ true → b ≡ true) → (not a || b) ≡ true
implies true b f = f refl
implies false b f = refl

-- A loop holds a block exactly if that lies behind its head and up to its END.
holds-at : (bs : List ControlBlock) (head close block : ℕ) → IsLoop bs head close
    → holds bs head block ≡ (nat_lt head block && nat_le block close)
holds-at bs head close block loop = ap (λ o. nat_lt head block && is_up_to block o) loop

-- A loop that holds a block begins before it and ends at it or behind.
holds-loop : (bs : List ControlBlock) (head block : ℕ) → holds bs head block ≡ true
    → (close : ℕ) × IsLoop bs head close × (head < block) × (block ≤ close)
holds-loop bs head block h =
    let held = both (nat_lt head block) (is_up_to block (end_of_loop bs head)) h in
    go (end_of_loop bs head) refl (true_lt head block held.0) held.1
  where
    go : (o : Option ℕ) → end_of_loop bs head ≡ o → head < block → is_up_to block o ≡ true
        → (close : ℕ) × IsLoop bs head close × (head < block) × (block ≤ close)
    go None e l f = absurd cc
    go (Some close) e l f = (close, e, l, true_le block close f)

-- If one head allows a jump and its loop holds the target, it holds the block.
one_head : (bs : List ControlBlock) (block target head close : ℕ)
    → (not (holds bs head target) || holds bs head block) ≡ true
    → IsLoop bs head close → head < target → target ≤ close → (head < block) × (block ≤ close)
one_head bs block target head close h loop from to =
    let t : holds bs head target ≡ true = holds-at bs head close target loop
    ∙ both_true (nat_lt head target) (nat_le target close) (lt_true head target from) (le_true target close to) in
    let b = both (nat_lt head block) (nat_le block close) (sym (holds-at bs head close block loop)
    ∙ implied (holds bs head target) (holds bs head block) h t) in
    (true_lt head block b.0, true_le block close b.1)

-- If all heads below n allow a jump, each loop of theirs that holds the target holds the block.
permits-loop : (n : ℕ) (bs : List ControlBlock) (block target : ℕ)
    → permits_below n bs block target ≡ true
    → (head close : ℕ) → head < n → IsLoop bs head close → head < target → target ≤ close
    → (head < block) × (block ≤ close)
permits-loop zero bs block target h head close lt loop from to = absurd (omega arith)
permits-loop (suc n) bs block target h head close lt loop from to =
    let each = both (not (holds bs n target) || holds bs n block) (permits_below n bs block target) h in
    elim (last_or_before head n (omega arith)) [
      | inl e ↦ one_head bs block target head close
          (subst (λ k. (not (holds bs k target) || holds bs k block) ≡ true) (sym e) each.0) loop from to
      | inr less ↦ permits-loop n bs block target each.1 head close less loop from to
    ]

-- If every loop that holds the target holds the block, all heads below n allow the jump.
permits-from : (n : ℕ) (bs : List ControlBlock) (block target : ℕ) → IsHeldToo bs block target
    → permits_below n bs block target ≡ true
permits-from zero bs block target p = refl
permits-from (suc n) bs block target p =
    both_true (not (holds bs n target) || holds bs n block) (permits_below n bs block target)
    (implies (holds bs n target) (holds bs n block)
    (λ h.
    let held = holds-loop bs n target h in
    let in' = p n held.0 held.1 held.2 held.3 in
    holds-at bs n held.0 block held.1 ∙ both_true (nat_lt n block) (nat_le block held.0)
    (lt_true n block in'.0) (le_true block held.0 in'.1)))
    (permits-from n bs block target p)

-- A jump is permitted exactly if every loop that holds its target holds its block.
pub permitted_held : (bs : List ControlBlock) (block target : ℕ) → IsPermitted bs block target ↔ IsHeldToo bs block target
permitted_held bs block target = (
  λ h head close loop from to. permits-loop target bs block target h head close from loop from to,
  λ p. permits-from target bs block target p,
)

-- A jump leads where the search says, and is permitted.
pub led : (bs : List ControlBlock) (block n target : ℕ) → Leads bs block n target
    → (seek bs block n ≡ Some target) × IsPermitted bs block target
led bs block n target e = go (seek bs block n) refl e
  where
    to : (at : ℕ) → seek bs block n ≡ Some at → (x : Bool) → permits bs block at ≡ x
        → permitted_target bs block (Some at) ≡ Ok target → (seek bs block n ≡ Some target) × IsPermitted bs block target
    to at f true y h =
        let ok : ◌≡◌ {A = Result ℕ Cause} (Ok at) (Ok target) = rw y at h in
        let same : at ≡ target = cc in
        (f ∙ ap (λ k. Some k) same, subst (λ k. IsPermitted bs block k) same y)
    to at f false y h = absurd (let err : ◌≡◌ {A = Result ℕ Cause} (Err IntoLoop) (Ok target) = rw y at h in cc)

    go : (o : Option ℕ) → seek bs block n ≡ o → permitted_target bs block o ≡ Ok target
        → (seek bs block n ≡ Some target) × IsPermitted bs block target
    go None f h = absurd cc
    go (Some at) f h = to at f (permits bs block at) refl h

-- A permitted jump leads to the block that the search finds.
pub leads_to : (bs : List ControlBlock) (block n target : ℕ) → seek bs block n ≡ Some target → IsPermitted bs block target
    → Leads bs block n target
leads_to bs block n target found may = rw (found, may) refl

-- An option that tests as holding the number holds it.
some_of : (place : ℕ) (o : Option ℕ) → is_some_of place o ≡ true → o ≡ Some place
some_of place None e = absurd cc
some_of place (Some own) e = ap (λ k. Some k) (equal own place e)

-- The head that the search below n finds begins a loop that ends at the block.
below-loop : (n : ℕ) (bs : List ControlBlock) (close head : ℕ) → head_below n bs close ≡ Some head
    → IsLoop bs head close
below-loop zero bs close head e = absurd cc
below-loop (suc n) bs close head e =
    go (λ h. below-loop n bs close head h) (is_some_of close (end_of_loop bs n)) refl
  where
    go : (head_below n bs close ≡ Some head → IsLoop bs head close) → (x : Bool)
        → is_some_of close (end_of_loop bs n) ≡ x → IsLoop bs head close
    go rest true y =
        let some : Some n ≡ Some head = rw y at e in
        let same : n ≡ head = cc in
        subst (λ k. IsLoop bs k close) same (some_of close (end_of_loop bs n) y)
    go rest false y = rest (rw y at e)

-- The head that is found for an END begins a loop that ends there.
pub head_is_of_loop : (bs : List ControlBlock) (close head : ℕ) → head_of_loop bs close ≡ Some head
    → IsLoop bs head close
head_is_of_loop bs close head e = below-loop close bs close head e

-- If a loop of a head below n ends at the block, the search below n finds a head.
below-found : (n : ℕ) (bs : List ControlBlock) (close head : ℕ) → IsLoop bs head close → head < n
    → (found : ℕ) × (head_below n bs close ≡ Some found)
below-found zero bs close head loop lt = absurd (omega arith)
below-found (suc n) bs close head loop lt =
    go (λ h. below-found n bs close head loop h) (is_some_of close (end_of_loop bs n)) refl
  where
    other : is_some_of close (end_of_loop bs n) ≡ false → head < n
    other y = elim (last_or_before head n (omega arith)) [
      | inl e ↦
          let at : is_some_of close (end_of_loop bs n) ≡ true =
          ap (λ o. is_some_of close o) (subst (λ k. IsLoop bs k close) e loop)
          ∙ true_same close close refl
          in absurd cc
      | inr less ↦ less
    ]

    go : (head < n → (found : ℕ) × (head_below n bs close ≡ Some found)) → (x : Bool)
        → is_some_of close (end_of_loop bs n) ≡ x
        → (found : ℕ) × (head_below (suc n) bs close ≡ Some found)
    go rest true y = (n, rw y refl)
    go rest false y = let r = rest (other y) in (r.0, rw y (r.1))

-- The head of the one loop that ends at the block is the one that the search finds.
pub head_answered : (bs : List ControlBlock) (close : ℕ) (first : Option ℕ)
    → ((head : ℕ) → (first ≡ Some head) ↔ IsLoop bs head close) → first ≡ head_of_loop bs close
head_answered bs close first heads = go first heads (head_of_loop bs close) refl
  where
    go : (first : Option ℕ) → ((head : ℕ) → (first ≡ Some head) ↔ IsLoop bs head close) → (o : Option ℕ)
        → head_of_loop bs close ≡ o → first ≡ head_of_loop bs close
    go first heads (Some head) e = (heads head).1 (head_is_of_loop bs close head e) ∙ sym e
    go None heads None e = sym e
    go (Some head) heads None e =
        let loop = (heads head).0 refl in
        let found = below-found close bs close head loop (loop_facts bs head close loop).order in
        absurd (let clash : ◌≡◌ {A = Option ℕ} None (Some found.0) = sym e ∙ found.1 in cc)

-- A program without blocks has no head to be found.
pub no_head_answered : (bs : List ControlBlock) (close : ℕ) → bs ≡ [] → None ≡ head_of_loop bs close
no_head_answered bs close e =
    head_answered bs close None
    (λ head. (λ f. absurd cc, λ loop. let f = sym (ap (λ these. end_of_loop these head) e) ∙ loop in absurd cc))
