-- Which loops are open where, in a program whose heads and ends fit together: an invariant of each
-- block. For the proofs of src/loops.rt and src/order.rt, and for Mismatched, Nested and NotedEnds.
-- The file's name stands for the loops that were opened.
use Rattle.std.proofs.Common.{◌≡◌, ◌≢◌, ℕ, zero, suc, ◌+◌, ◌-◌, ◌<◌, ◌≤◌, ◌↔◌, ◌⊎◌, inl, inr, Bool, true, false, cond, eqb, List, [], ◌∷◌, length, take, Option, Some, None, refl, sym, ap, ◌∙◌, arith, subst, ⊎_elim}
use Rattle.std.specs.List.{Contains}
use Rattle.std.proofs.lemmas.Bool.{cases_eq, cases_lt}
use Rattle.std.proofs.lemmas.Bool.Decides.{nat_tests}
use Rattle.block_order.specs.declared.control.Control.{Control}
use Rattle.block_order.specs.declared.control.Control.TheVariants.{Next, Goto, While, Do, EndLoop, Wait, End, Call, Back, BackTo}
use Rattle.block_order.specs.declared.program.ControlBlock.{ControlBlock}
use Rattle.nc_number.proofs.Counts.{some_is}
use Rattle.block_order.specs.Order.{control_at, head_name, IsLoop, IsPermitted}
use Rattle.block_order.specs.LoopFacts.{LoopFacts}
use Rattle.block_order.specs.Loops.{Open, open_after_end, open_behind, open_after, open_before, names, places, latest}
use Rattle.block_order.specs.Loops.{unclosed, unopened, nested, overlap}
use Rattle.block_order.specs.Fitting.{Fits, innermost}
use Rattle.block_order.proofs.Searches.{loop_facts, nearest_is, loop_unique, permitted_held}

-- What a control does to the open loops.
pub data Kind (c : Control) : Type 0 where
  -- A head opens the loop of its name.
  opening : (n : ℕ) → head_name (Some c) ≡ Some n
      → ((p : ℕ) (loops : List Open) → open_behind p c loops ≡ record { place = p; name = n } ∷ loops)
      → ((m : ℕ) → c ≢ EndLoop m) → Kind c
  -- An END closes the latest open loop of its name, if there is one.
  closing : (n : ℕ) → c ≡ EndLoop n → Kind c
  -- A control that is neither leaves them as they are.
  plain : head_name (Some c) ≡ None → ((p : ℕ) (loops : List Open) → open_behind p c loops ≡ loops)
      → ((m : ℕ) → c ≢ EndLoop m) → Kind c

-- Each control is a head, an END or neither.
pub kind : (c : Control) → Kind c
kind (While m) = opening m refl (λ p loops. refl) (λ k e. cc)
kind (Do m) = opening m refl (λ p loops. refl) (λ k e. cc)
kind (EndLoop m) = closing m refl
kind Next = plain refl (λ p loops. refl) (λ k e. cc)
kind (Goto n) = plain refl (λ p loops. refl) (λ k e. cc)
kind (Wait code) = plain refl (λ p loops. refl) (λ k e. cc)
kind End = plain refl (λ p loops. refl) (λ k e. cc)
kind (Call program repeats) = plain refl (λ p loops. refl) (λ k e. cc)
kind Back = plain refl (λ p loops. refl) (λ k e. cc)
kind (BackTo n) = plain refl (λ p loops. refl) (λ k e. cc)

-- The loops that are open behind one block more are those before it, changed by its control.
open_after-more : (bs : List ControlBlock) (p place : ℕ) (loops : List Open) (c : Control) → control_at bs p ≡ Some c
    → open_after place loops (take (suc p) bs) ≡ open_behind (place + p) c (open_after place loops (take p bs))
open_after-more [] p place loops c e = absurd cc
open_after-more (b ∷ bs) zero place loops c e =
    let same : b.control ≡ c = cc in
    let at : place ≡ place + 0 = omega arith in
    ap (λ x. open_behind place x loops) same ∙ ap (λ q. open_behind q c loops) at
open_after-more (b ∷ bs) (suc p) place loops c e =
    let at : suc place + p ≡ place + suc p = omega arith in
    open_after-more bs p (suc place) (open_behind place b.control loops) c e
    ∙ ap (λ q. open_behind q c (open_after (suc place) (open_behind place b.control loops) (take p bs))) at

-- The open loops behind a block are those before it, changed by its control.
pub open_more : (bs : List ControlBlock) (p : ℕ) (c : Control) → control_at bs p ≡ Some c
    → open_before bs (suc p) ≡ open_behind p c (open_before bs p)
open_more bs p c e =
    let at : 0 + p ≡ p = omega arith in
    open_after-more bs p 0 [] c e ∙ ap (λ q. open_behind q c (open_before bs p)) at

-- A place within the program has a control.
control_within : (bs : List ControlBlock) (p : ℕ) → p < length bs → (c : Control) × (control_at bs p ≡ Some c)
control_within (b ∷ bs) zero h = (b.control, refl)
control_within (b ∷ bs) (suc p) h = control_within bs p (omega arith)
control_within [] p h = absurd (omega arith)

-- A place with a control stands in the program.
pub within_control : (bs : List ControlBlock) (p : ℕ) (c : Control) → control_at bs p ≡ Some c → p < length bs
within_control (b ∷ bs) zero c e = omega arith
within_control (b ∷ bs) (suc p) c e = let l = within_control bs p c e in omega arith
within_control [] p c e = absurd cc

-- The END of a loop stands in the program.
pub close_within : (bs : List ControlBlock) (head close : ℕ) → IsLoop bs head close → close < length bs
close_within bs head close loop =
    let facts = loop_facts bs head close loop in within_control bs close (EndLoop facts.name) facts.is_close

-- The loop of this head and name is one of these open loops.
abbrev pub Has : ℕ → ℕ → List Open → Type 0
Has h n [] = ⊥
Has h n (x ∷ xs) = ((x.place ≡ h) × (x.name ≡ n)) ⊎ Has h n xs

-- The name of an open loop is one of the names.
pub has-names : (h n : ℕ) (loops : List Open) → Has h n loops → Contains (names loops) n
has-names h n [] w = elim w [ ]
has-names h n (x ∷ xs) (inl e) = (0, omega arith, e.1)
has-names h n (x ∷ xs) (inr w) = let k = has-names h n xs w in (suc k.0, omega (arith, k.1), k.2)

-- The head of an open loop is one of the places.
has-places : (h n : ℕ) (loops : List Open) → Has h n loops → Contains (places loops) h
has-places h n [] w = elim w [ ]
has-places h n (x ∷ xs) (inl e) = (0, omega arith, e.0)
has-places h n (x ∷ xs) (inr w) = let k = has-places h n xs w in (suc k.0, omega (arith, k.1), k.2)

-- The test of equal numbers says yes.
eq_test : (a b : ℕ) → a ≡ b → eqb a b ≡ true
eq_test a b e = grind (arith, nat_tests)

-- The test of different numbers says no.
ne_test : (a b : ℕ) → a ≢ b → eqb a b ≡ false
ne_test a b e = grind (arith, nat_tests)

-- A loop that is in two lists is in the one that is taken, also if another loop stands in front of
-- the second.
has-cond : (v : Bool) (h n : ℕ) (x : Open) (xs ys : List Open) → Has h n xs → Has h n ys → Has h n (cond v xs (x ∷ ys))
has-cond true h n x xs ys a b = a
has-cond false h n x xs ys a b = inr b

-- A loop stays open if one of another name is closed.
has-closed : (h n m : ℕ) (loops : List Open) → n ≢ m → Has h n loops → Has h n (open_after_end m loops)
has-closed h n m [] ne w = elim w [ ]
has-closed h n m (x ∷ xs) ne (inl e) =
    let other : x.name ≢ m = λ k. ne (sym e.1 ∙ k) in
    let test : eqb x.name m ≡ false = ne_test x.name m other in
    rw test (inl e)
has-closed h n m (x ∷ xs) ne (inr w) = has-cond (eqb x.name m) h n x xs (open_after_end m xs) w (has-closed h n m xs ne w)

-- A loop stays open behind a block that is no END of its name.
has-behind : (h n p : ℕ) (c : Control) (loops : List Open) → Kind c → c ≢ EndLoop n → Has h n loops
    → Has h n (open_behind p c loops)
has-behind h n p c loops (opening m is push other) ne w = rw (push p loops) (inr w)
has-behind h n p c loops (closing m is) ne w =
    let apart : n ≢ m = λ e. ne (is ∙ ap (λ x. EndLoop x) (sym e)) in
    let to : open_behind p c loops ≡ open_after_end m loops = ap (λ x. open_behind p x loops) is in
    rw to (has-closed h n m loops apart w)
has-behind h n p c loops (plain none same other) ne w = rw (same p loops) w

-- What holds of the loops that are open before p: each began at its head, has met no END of its
-- name, is not inside a loop of its own name, and the loops below it are those that were open
-- before its head.
abbrev pub AllOpen : List ControlBlock → ℕ → List Open → Type 0
AllOpen bs p [] = Unit {0}
AllOpen bs p (x ∷ xs) =
    (x.place < p)
    × (head_name (control_at bs x.place) ≡ Some x.name)
    × ((k : ℕ) → x.place < k → k < p → control_at bs k ≢ Some (EndLoop x.name))
    × (Contains (names xs) x.name → ⊥)
    × (xs ≡ open_before bs x.place)
    × AllOpen bs p xs

-- A list of names with one name more still contains the others.
contains-more : (n m : ℕ) (ns : List ℕ) → Contains ns n → Contains (m ∷ ns) n
contains-more n m ns w = (suc w.0, omega (arith, w.1), w.2)

-- If no block between a head and p is an END of the name, and p is none, no block up to p is one.
not-end : (bs : List ControlBlock) (p n : ℕ) (c : Control) (x : ℕ) → control_at bs p ≡ Some c → c ≢ EndLoop n
    → ((k : ℕ) → x < k → k < p → control_at bs k ≢ Some (EndLoop n))
    → (k : ℕ) → x < k → k < suc p → control_at bs k ≢ Some (EndLoop n)
not-end bs p n c x at ne f k l m e =
    ⊎_elim
    (λ (same : k ≡ p).
    let there : Some c ≡ Some (EndLoop n) = sym at ∙ ap (control_at bs) (sym same) ∙ e in
    let is : c ≡ EndLoop n = cc in
    ne is)
    (λ (other : k ≢ p). f k l (omega arith) e)
    (cases_eq k p)

-- The invariant of open loops holds one block further, if that block ends none of them.
all-further : (bs : List ControlBlock) (p : ℕ) (c : Control) (loops : List Open) → control_at bs p ≡ Some c
    → ((n : ℕ) → Contains (names loops) n → c ≢ EndLoop n) → AllOpen bs p loops → AllOpen bs (suc p) loops
all-further bs p c [] at ne w = tt
all-further bs p c (x ∷ xs) at ne w = (
  omega (arith, w.0),
  w.1,
  not-end bs p x.name c x.place at (ne x.name (0, omega arith, refl)) w.2,
  w.3,
  w.4,
  all-further bs p c xs at (λ n k. ne n (contains-more n x.name (names xs) k)) w.5,
)

-- If the name of the first open loop is not n, the latest name is not n.
some-names : (x : Open) (xs : List Open) (n : ℕ) → x.name ≢ n → latest (names (x ∷ xs)) ≢ Some n
some-names x xs n ne e = let k : x.name ≡ n = cc in ne k

-- The END of a program that fits closes the latest open loop.
closes-latest : (bs : List ControlBlock) (p n : ℕ) → Fits bs → control_at bs p ≡ Some (EndLoop n)
    → (loops : List Open) → loops ≡ open_before bs p
    → (x : Open) × (xs : List Open) × (loops ≡ x ∷ xs) × (x.name ≡ n)
closes-latest bs p n fits at [] is =
    absurd (fits p (unopened n at (λ (w : Contains (names (open_before bs p)) n).
    let none : Contains (names []) n = subst (λ (ls : List Open). Contains (names ls) n) (sym is) w in absurd (omega (arith, none.1)))))
closes-latest bs p n fits at (x ∷ xs) is =
    ⊎_elim
    (λ (e : x.name ≡ n). (x, xs, refl, e))
    (λ (ne : x.name ≢ n).
    let lacks : Contains (names (open_before bs p)) n → ⊥ = λ (w : Contains (names (open_before bs p)) n).
    fits p (overlap n at w (rw (← is) (some-names x xs n ne))) in
    absurd (fits p (unopened n at lacks)))
    (cases_eq x.name n)

-- The invariant of the open loops holds behind one block more.
all-behind : (bs : List ControlBlock) (p : ℕ) (c : Control) (loops : List Open) → Fits bs → control_at bs p ≡ Some c → Kind c
    → loops ≡ open_before bs p → AllOpen bs p loops → AllOpen bs (suc p) (open_behind p c loops)
all-behind bs p c loops fits at (opening n is push other) same w =
    rw (push p loops) (
      omega arith,
      ap head_name at ∙ is,
      (λ k l m. absurd (omega arith)),
      (λ (k : Contains (names loops) n). fits p (nested n (ap head_name at ∙ is) (rw (← same) k))),
      same,
      all-further bs p c loops at (λ m k. other m) w,
    )
all-behind bs p c loops fits at (closing n is) same w =
    let ends : control_at bs p ≡ Some (EndLoop n) = at ∙ ap (λ x. Some x) is in
    let top = closes-latest bs p n fits ends loops same in
    let test : eqb top.0.name n ≡ true = eq_test top.0.name n top.3 in
    let to : open_behind p c loops ≡ top.1 =
    ap (λ x. open_behind p x loops) is ∙ ap (open_after_end n) top.2 ∙ ap (λ v. cond v top.1 (top.0 ∷ open_after_end n top.1)) test in
    let split : AllOpen bs p (top.0 ∷ top.1) = subst (AllOpen bs p) top.2 w in
    rw to (all-further bs p c top.1 at (λ m k e.
    let met : EndLoop n ≡ EndLoop m = sym is ∙ e in
    let eq : n ≡ m = cc in
    split.3 (subst (Contains (names top.1)) (sym (top.3 ∙ eq)) k)) split.5)
all-behind bs p c loops fits at (plain none stays other) same w = rw (stays p loops) (all-further bs p c loops at (λ n k. other n) w)

-- The invariant holds of the loops that are open before each block.
all-open : (bs : List ControlBlock) → Fits bs → (p : ℕ) → p ≤ length bs → AllOpen bs p (open_before bs p)
all-open bs fits zero h = tt
all-open bs fits (suc p) h =
    let c = control_within bs p (omega arith) in
    rw (open_more bs p c.0 c.1)
    (all-behind bs p c.0 (open_before bs p) fits c.1 (kind c.0) refl (all-open bs fits p (omega arith)))

-- An open loop began at its head, before the block, and has met no END of its name.
each-open : (bs : List ControlBlock) (p h n : ℕ) (loops : List Open) → AllOpen bs p loops → Has h n loops
    → (h < p) × (head_name (control_at bs h) ≡ Some n)
    × ((k : ℕ) → h < k → k < p → control_at bs k ≢ Some (EndLoop n))
each-open bs p h n [] w more = elim more [ ]
each-open bs p h n (x ∷ xs) w (inl e) =
    let P : ℕ → ℕ → Type 0 = λ h n.
    (h < p) × (head_name (control_at bs h) ≡ Some n)
    × ((k : ℕ) → h < k → k < p → control_at bs k ≢ Some (EndLoop n)) in
    subst (P h) e.1 (subst (λ h. P h x.name) e.0 (w.0, w.1, w.2))
each-open bs p h n (x ∷ xs) w (inr more) = each-open bs p h n xs w.5 more

-- A place has one control.
pub at-control : (bs : List ControlBlock) (p : ℕ) (c d : Control) → control_at bs p ≡ Some c → control_at bs p ≡ Some d → c ≡ d
at-control bs p c d e f = let k : Some c ≡ Some d = sym e ∙ f in cc

-- The loop of a head is open behind it.
pub opens : (bs : List ControlBlock) (h n : ℕ) → head_name (control_at bs h) ≡ Some n → Has h n (open_before bs (suc h))
opens bs h n named = go (control_at bs h) refl where
  opened : (c : Control) → control_at bs h ≡ Some c → head_name (Some c) ≡ Some n → Kind c → Has h n (open_before bs (suc h))
  opened c at is (opening m own push other) =
      rw (open_more bs h c at, push h (open_before bs h)) (inl (refl, some_is (sym own ∙ is)))
  opened c at is (closing m e) = let none : None ≡ Some n = sym (ap (λ d. head_name (Some d)) e) ∙ is in absurd cc
  opened c at is (plain none same other) = let k : None ≡ Some n = sym none ∙ is in absurd cc

  go : (o : Option Control) → control_at bs h ≡ o → Has h n (open_before bs (suc h))
  go None at = let none : None ≡ Some n = sym (ap head_name at) ∙ named in absurd cc
  go (Some c) at = opened c at (sym (ap head_name at) ∙ named) (kind c)

-- A loop is open between its head and its END.
loop-open : (bs : List ControlBlock) (h close : ℕ) (loop : LoopFacts bs h close) (gap : ℕ)
    → suc (h + gap) ≤ close → Has h loop.name (open_before bs (suc (h + gap)))
loop-open bs h close loop zero l =
    let e : suc h ≡ suc (h + 0) = omega arith in
    subst (λ (p : ℕ). Has h loop.name (open_before bs p)) e (opens bs h loop.name loop.named)
loop-open bs h close loop (suc gap) l =
    let e : suc (suc (h + gap)) ≡ suc (h + suc gap) = omega arith in
    let more = loop-open bs h close loop gap (omega arith) in
    let inside : suc (h + gap) < length bs =
    omega (arith, within_control bs close (EndLoop loop.name) loop.is_close) in
    let c = control_within bs (suc (h + gap)) inside in
    let ne : c.0 ≢ EndLoop loop.name =
    λ (k : c.0 ≡ EndLoop loop.name). loop.nearest (suc (h + gap)) (omega arith) (omega arith) (c.1 ∙ ap (λ x. Some x) k) in
    subst (λ (p : ℕ). Has h loop.name (open_before bs p)) e
    (rw (open_more bs (suc (h + gap)) c.0 c.1) (has-behind h loop.name _ c.0 _ (kind c.0) ne more))

-- A loop is open before each block that it holds.
pub open-inside : (bs : List ControlBlock) (h close : ℕ) (loop : LoopFacts bs h close) (t : ℕ) → h < t → t ≤ close
    → Has h loop.name (open_before bs t)
open-inside bs h close loop t l m =
    let gap = t - suc h in
    let e : suc (h + gap) ≡ t = omega arith in
    subst (λ (p : ℕ). Has h loop.name (open_before bs p)) e (loop-open bs h close loop gap (omega arith))

-- A control is this END or not.
cases-end : (c : Control) (n : ℕ) → (c ≡ EndLoop n) ⊎ (c ≢ EndLoop n)
cases-end c n = go (kind c) where
  go : Kind c → (c ≡ EndLoop n) ⊎ (c ≢ EndLoop n)
  go (opening m named push other) = inr (other n)
  go (closing m e) =
      ⊎_elim
      (λ (k : m ≡ n). inl (e ∙ ap (λ x. EndLoop x) k))
      (λ (ne : m ≢ n). inr (λ (f : c ≡ EndLoop n). let g : EndLoop m ≡ EndLoop n = sym e ∙ f in let k : m ≡ n = cc in ne k))
      (cases_eq m n)
  go (plain none same other) = inr (other n)

-- A loop that is open before a block ends at that block or behind it.
pub open-ends : (bs : List ControlBlock) (h n left t : ℕ) → Fits bs → t + left ≡ length bs → Has h n (open_before bs t)
    → (close : ℕ) × (t ≤ close) × IsLoop bs h close
open-ends bs h n zero t fits e w =
    let same : t ≡ length bs = omega arith in
    absurd (fits h (unclosed (has-places h n _ (subst (λ (p : ℕ). Has h n (open_before bs p)) same w))))
open-ends bs h n (suc left) t fits e w =
    let c = control_within bs t (omega arith) in
    let known = each-open bs t h n _ (all-open bs fits t (omega arith)) w in
    ⊎_elim
    (λ (is : c.0 ≡ EndLoop n). (
      t,
      omega arith,
      nearest_is bs h t
          (record { name = n; named = known.1; is_close = c.1 ∙ ap (λ x. Some x) is; order = known.0; nearest = known.2 }),
    ))
    (λ (ne : c.0 ≢ EndLoop n).
    let more = open-ends bs h n left (suc t) fits (omega arith)
    (rw (open_more bs t c.0 c.1) (has-behind h n t c.0 _ (kind c.0) ne w)) in
    (more.0, omega (arith, more.1), more.2))
    (cases-end c.0 n)

-- The innermost head before a block belongs to an open loop.
latest-has : (h : ℕ) (loops : List Open) → latest (places loops) ≡ Some h → (n : ℕ) × Has h n loops
latest-has h [] e = absurd cc
latest-has h (x ∷ xs) e = let k : x.place ≡ h = cc in (x.name, inl (k, refl))

-- If a loop is open, there is an innermost one.
has-latest : (h n : ℕ) (loops : List Open) → Has h n loops → latest (places loops) ≡ None → ⊥
has-latest h n [] w e = w
has-latest h n (x ∷ xs) w e = absurd cc

-- None of these open loops begins behind the innermost head.
top-of : (bs : List ControlBlock) (p h n top : ℕ) (loops : List Open) → Fits bs → p ≤ length bs → AllOpen bs p loops
    → Has h n loops → latest (places loops) ≡ Some top → h ≤ top
top-of bs p h n top [] fits l w has e = elim has [ ]
top-of bs p h n top (x ∷ xs) fits l w (inl is) e =
    let k : x.place ≡ top = cc in omega (arith, is.0)
top-of bs p h n top (x ∷ xs) fits l w (inr more) e =
    let k : x.place ≡ top = cc in
    let below = each-open bs x.place h n _ (all-open bs fits x.place (omega (arith, w.0)))
    (subst (λ (ls : List Open). Has h n ls) w.4 more) in
    omega (arith, below.0)

-- No open loop begins behind the head of the innermost one.
top-least : (bs : List ControlBlock) (p h n top : ℕ) → Fits bs → p ≤ length bs → Has h n (open_before bs p)
    → innermost bs p ≡ Some top → h ≤ top
top-least bs p h n top fits l has e = top-of bs p h n top _ fits l (all-open bs fits p l) has e

-- Two open loops of one name are one.
same-name : (bs : List ControlBlock) (p h n : ℕ) (x : Open) (xs : List Open) → AllOpen bs p (x ∷ xs) → Has h n (x ∷ xs)
    → n ≡ x.name → x.place ≡ h
same-name bs p h n x xs w (inl e) is = e.0
same-name bs p h n x xs w (inr more) is = absurd (w.3 (subst (Contains (names xs)) is (has-names h n xs more)))

-- An END closes the innermost loop.
pub open_after_end-head : (bs : List ControlBlock) (h end : ℕ) → Fits bs → IsLoop bs h end → innermost bs end ≡ Some h
open_after_end-head bs h end fits is_loop =
    let loop = loop_facts bs h end is_loop in
    let top = closes-latest bs end loop.name fits loop.is_close (open_before bs end) refl in
    let within = within_control bs end (EndLoop loop.name) loop.is_close in
    let has = open-inside bs h end loop end loop.order (omega arith) in
    let good = all-open bs fits end (omega arith) in
    let split : AllOpen bs end (top.0 ∷ top.1) = subst (AllOpen bs end) top.2 good in
    let at : top.0.place ≡ h =
    same-name bs end h loop.name top.0 top.1 split (subst (λ (ls : List Open). Has h loop.name ls) top.2 has) (sym top.3) in
    ap (λ ls. latest (places ls)) top.2 ∙ ap (λ x. Some x) at

-- An END closes the loop of the innermost head, which ends here; behind it those loops are open
-- that were so before that head.
pub end-closes : (bs : List ControlBlock) (end n : ℕ) → Fits bs → control_at bs end ≡ Some (EndLoop n)
    → (h : ℕ) × (innermost bs end ≡ Some h) × (h < end) × IsLoop bs h end × (open_before bs (suc end) ≡ open_before bs h)
end-closes bs end n fits at =
    let top = closes-latest bs end n fits at (open_before bs end) refl in
    let within = within_control bs end (EndLoop n) at in
    let good = all-open bs fits end (omega arith) in
    let split : AllOpen bs end (top.0 ∷ top.1) = subst (AllOpen bs end) top.2 good in
    let test : eqb top.0.name n ≡ true = eq_test top.0.name n top.3 in
    let to : open_before bs (suc end) ≡ top.1 =
    open_more bs end (EndLoop n) at ∙ ap (open_after_end n) top.2 ∙ ap (λ v. cond v top.1 (top.0 ∷ open_after_end n top.1)) test in (
      top.0.place,
      ap (λ ls. latest (places ls)) top.2,
      split.0,
      nearest_is bs top.0.place end
          (record {
            name = top.0.name;
            named = split.1;
            is_close = at ∙ ap (λ x. Some (EndLoop x)) (sym top.3);
            order = split.0;
            nearest = split.2;
          }),
      to ∙ split.4,
    )

-- No block is both a head and an END.
head-no-end : (bs : List ControlBlock) (h end p : ℕ) → IsLoop bs h p → IsLoop bs end h → ⊥
head-no-end bs h end p x y =
    let head = loop_facts bs h p x in
    let close = loop_facts bs end h y in
    let e : None ≡ Some head.name = sym (ap head_name close.is_close) ∙ head.named in cc

-- A loop that begins inside another ends before it.
pub nests : (bs : List ControlBlock) (h end h' end' : ℕ) → Fits bs → IsLoop bs h end → IsLoop bs h' end' → h < h' → h' ≤ end
    → end' < end
nests bs h end h' end' fits x y l m = go (cases_lt end' end) where
  go : (end' < end) ⊎ (end ≤ end') → end' < end
  go (inl k) = k
  go (inr k) =
      ⊎_elim
      (λ (e : h' ≡ end). absurd (head-no-end bs h' h end' y (subst (IsLoop bs h) (sym e) x)))
      (λ (ne : h' ≢ end).
      let outer = loop_facts bs h end x in
      let inner = loop_facts bs h' end' y in
      let within = within_control bs end (EndLoop outer.name) outer.is_close in
      let has = open-inside bs h' end' inner end (omega arith) k in
      absurd (omega (arith, top-least bs end h' inner.name h fits (omega arith) has (open_after_end-head bs h end fits x))))
      (cases_eq h' end)

-- A jump to a block that no loop holds is permitted from everywhere.
pub reach-all : (bs : List ControlBlock) (t b : ℕ) → innermost bs t ≡ None → IsPermitted bs b t
reach-all bs t b e =
    (permitted_held bs b t).1
    (λ h end loop l m.
    let facts = loop_facts bs h end loop in absurd (has-latest h facts.name _ (open-inside bs h end facts t l m) e))

-- The loop of the innermost head that is open before a block holds that block.
pub innermost-ends : (bs : List ControlBlock) (t top : ℕ) → Fits bs → t ≤ length bs → innermost bs t ≡ Some top
    → (end : ℕ) × (top < t) × (t ≤ end) × IsLoop bs top end
innermost-ends bs t top fits l e =
    let has = latest-has top _ e in
    let begun = each-open bs t top has.0 _ (all-open bs fits t l) has.1 in
    let ends = open-ends bs top has.0 (length bs - t) t fits (omega arith) has.1 in
    (ends.0, begun.0, ends.1, ends.2)

-- A jump to a block in loops is permitted exactly from the blocks that the innermost of them holds.
pub reach-some : (bs : List ControlBlock) (t b top end : ℕ) → Fits bs → t ≤ length bs → innermost bs t ≡ Some top
    → top < t → t ≤ end → IsLoop bs top end → IsPermitted bs b t ↔ ((top < b) × (b ≤ end))
reach-some bs t b top end fits l e before behind loop = (
  λ p. (permitted_held bs b t).0 p top end loop before behind,
  λ w. (permitted_held bs b t).1 (λ h' end' other m n. in-other h' end' other m n w),
)
  where
    in-other : (h' end' : ℕ) → IsLoop bs h' end' → h' < t → t ≤ end' → (top < b) × (b ≤ end) → (h' < b) × (b ≤ end')
    in-other h' end' other m n w =
        let facts = loop_facts bs h' end' other in
        let low = top-least bs t h' facts.name top fits l (open-inside bs h' end' facts t m n) e in
        ⊎_elim
        (λ (same : h' ≡ top).
        let k : end' ≡ end = loop_unique bs top end' end (subst (λ (h : ℕ). IsLoop bs h end') same other) loop in
        (omega (arith, w.0), omega (arith, w.1)))
        (λ (ne : h' ≢ top).
        let k = nests bs h' end' top end fits other loop (omega arith) (omega arith) in
        (omega (arith, w.0), omega (arith, w.1)))
        (cases_eq h' top)
