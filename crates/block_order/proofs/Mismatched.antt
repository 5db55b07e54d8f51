-- The pass over a program's blocks in src/mismatch.rt finds its first mismatch: the first block
-- that does not fit with the program's loops. For the proof of that file and for Located.
use Rattle.std.proofs.Common.{◌≡◌, ℕ, zero, suc, ◌+◌, ◌<◌, ◌≤◌, ◌⊎◌, inl, inr, min, Bool, true, false, not, ◌||◌, cond, eqb, List, [], ◌∷◌, length, get_or, take, Option, Some, None, refl, sym, ap, ◌∙◌, arith, subst, ⊎_elim}
use Rattle.std.specs.List.{Contains}
use Rattle.std.proofs.lemmas.Bool.{cases_lt, eqb-true}
use Rattle.std.proofs.lemmas.Bool.Decides.{nat_tests}
use Rattle.std.proofs.lemmas.List.{take_all}
use Rattle.nc_number.proofs.Bools.{or_right, not_true}
use Rattle.nc_number.proofs.Counts.{some_is}
use Rattle.nc_number.specs.Options.{lesser}
use Rattle.block_order.specs.declared.control.Control.{Control}
use Rattle.block_order.specs.declared.control.Control.TheVariants.{Next, Goto, While, Do, EndLoop, Wait, End, Call, Back, BackTo}
use Rattle.block_order.specs.declared.program.ControlBlock.{ControlBlock}
use Rattle.block_order.specs.Order.{control_at, head_name, or_else}
use Rattle.block_order.specs.Loops.{Open, open_after_end, open_behind, open_after, open_before, names, places, latest, IsMismatch, unclosed, unopened, nested, overlap}
use Rattle.block_order.specs.Misplaced.{has_name, is_latest, is_misplaced, first_misplaced, earliest, IsFirstMismatch}
use Rattle.block_order.proofs.Opened.{within_control, Kind, opening, closing, plain, kind}

-- None of the first n of these blocks is misplaced.
abbrev pub NoneMisplaced : ℕ → List Open → List ControlBlock → ℕ → Type 0
NoneMisplaced place loops bs n =
    (k : ℕ) (c : Control) → k < n → control_at bs k ≡ Some c → is_misplaced (open_after place loops (take k bs)) c ≡ false

-- If the first block is not misplaced and the n behind it are not, the first n + 1 are not.
none-further : (place : ℕ) (loops : List Open) (b : ControlBlock) (bs : List ControlBlock) (n : ℕ)
    → is_misplaced loops b.control ≡ false
    → NoneMisplaced (suc place) (open_behind place b.control loops) bs n → NoneMisplaced place loops (b ∷ bs) (suc n)
none-further place loops b bs n here more zero c l e =
    let k : b.control ≡ c = cc in subst (λ (d : Control). is_misplaced loops d ≡ false) k here
none-further place loops b bs n here more (suc k) c l e = more k c (omega arith) e

-- No block of these is misplaced, or the place is that of the first that is.
abbrev pub Found : ℕ → List Open → List ControlBlock → Option ℕ → Type 0
Found place loops bs None = NoneMisplaced place loops bs (length bs)
Found place loops bs (Some p) =
    (k : ℕ) × (p ≡ place + k) × ((c : Control) × (control_at bs k ≡ Some c)
    × (is_misplaced (open_after place loops (take k bs)) c ≡ true)) × NoneMisplaced place loops bs k

-- The first misplaced block of the rest is that of all, if this one is not misplaced.
found-further : (place : ℕ) (loops : List Open) (b : ControlBlock) (bs : List ControlBlock) (o : Option ℕ)
    → is_misplaced loops b.control ≡ false
    → Found (suc place) (open_behind place b.control loops) bs o → Found place loops (b ∷ bs) o
found-further place loops b bs None here w = none-further place loops b bs (length bs) here w
found-further place loops b bs (Some p) here w =
    (suc w.0, omega (arith, w.1), w.2, none-further place loops b bs w.0 here w.3)

-- The pass finds the first misplaced block.
misplaced-found : (bs : List ControlBlock) (place : ℕ) (loops : List Open)
    → Found place loops bs (first_misplaced place loops bs)
misplaced-found [] place loops = λ k c l e. absurd (omega arith)
misplaced-found (b ∷ bs) place loops =
    go (misplaced-found bs (suc place) (open_behind place b.control loops)) (is_misplaced loops b.control) refl where
      go : Found (suc place) (open_behind place b.control loops) bs (first_misplaced (suc place) (open_behind place b.control loops) bs)
          → (v : Bool) → is_misplaced loops b.control ≡ v → Found place loops (b ∷ bs) (first_misplaced place loops (b ∷ bs))
      go more true e = rw e (0, omega arith, (b.control, refl, e), λ k c l f. absurd (omega arith))
      go more false e = rw e (found-further place loops b bs _ e more)

-- A test that finds the name means that the list contains it.
has-contains : (n : ℕ) (loops : List Open) → has_name n loops ≡ true → Contains (names loops) n
has-contains n [] e = absurd cc
has-contains n (x ∷ xs) e = go (λ more. has-contains n xs more) (eqb x.name n) refl where
  go : (has_name n xs ≡ true → Contains (names xs) n) → (v : Bool) → eqb x.name n ≡ v → Contains (names (x ∷ xs)) n
  go rest true t = (0, omega arith, eqb-true x.name n t)
  go rest false t =
      let more : has_name n xs ≡ true = sym (ap (λ v. v || has_name n xs) t) ∙ e in
      let w = rest more in (suc w.0, omega (arith, w.1), w.2)

-- If the list of names contains the name, the test finds it.
contains-has : (n k : ℕ) (loops : List Open) → k < length (names loops) → get_or (names loops) k n ≡ n → has_name n loops ≡ true
contains-has n k [] l e = absurd (omega arith)
contains-has n zero (x ∷ xs) l e =
    let t : eqb x.name n ≡ true = grind (arith, nat_tests) in ap (λ v. v || has_name n xs) t
contains-has n (suc k) (x ∷ xs) l e = or_right (eqb x.name n) (has_name n xs) (contains-has n k xs (omega arith) e)

-- If the test says that the latest open loop has the name, it has it.
latest-true : (n : ℕ) (loops : List Open) → is_latest n loops ≡ true → latest (names loops) ≡ Some n
latest-true n [] e = absurd cc
latest-true n (x ∷ xs) e = ap (λ k. Some k) (eqb-true x.name n e)

-- If the latest open loop has the name, the test says so.
latest-same : (n : ℕ) (loops : List Open) → latest (names loops) ≡ Some n → is_latest n loops ≡ true
latest-same n [] e = absurd cc
latest-same n (x ∷ xs) e = let k : x.name ≡ n = cc in grind (arith, nat_tests)

-- The latest name is one of the names.
latest-contains : (n : ℕ) (loops : List Open) → is_latest n loops ≡ true → Contains (names loops) n
latest-contains n [] e = absurd cc
latest-contains n (x ∷ xs) e = (0, omega arith, eqb-true x.name n e)

-- The negation of a test that can't be true is true.
true-not : (v : Bool) → (v ≡ true → ⊥) → not v ≡ true
true-not true f = absurd (f refl)
true-not false f = refl

-- An END of another loop than the latest is a mismatch.
end-mismatch : (bs : List ControlBlock) (p n : ℕ) → control_at bs p ≡ Some (EndLoop n)
    → is_latest n (open_before bs p) ≡ false → IsMismatch bs p
end-mismatch bs p n at other = go (has_name n (open_before bs p)) refl where
  go : (v : Bool) → has_name n (open_before bs p) ≡ v → IsMismatch bs p
  go true e =
      overlap n at (has-contains n (open_before bs p) e)
      (λ (k : latest (names (open_before bs p)) ≡ Some n).
      let f : is_latest n (open_before bs p) ≡ true = latest-same n (open_before bs p) k in absurd cc)
  go false e =
      unopened n at
      (λ (w : Contains (names (open_before bs p)) n).
      let f : has_name n (open_before bs p) ≡ true = contains-has n w.0 (open_before bs p) w.1 w.2 in absurd cc)

-- A misplaced block is a mismatch.
to-mismatch : (bs : List ControlBlock) (p : ℕ) (c : Control) → control_at bs p ≡ Some c
    → is_misplaced (open_before bs p) c ≡ true → IsMismatch bs p
to-mismatch bs p (While n) at e = nested n (ap head_name at) (has-contains n (open_before bs p) e)
to-mismatch bs p (Do n) at e = nested n (ap head_name at) (has-contains n (open_before bs p) e)
to-mismatch bs p (EndLoop n) at e = end-mismatch bs p n at (not_true (is_latest n (open_before bs p)) e)
to-mismatch bs p Next at e = absurd cc
to-mismatch bs p (Goto n) at e = absurd cc
to-mismatch bs p (Wait n) at e = absurd cc
to-mismatch bs p End at e = absurd cc
to-mismatch bs p (Call n m) at e = absurd cc
to-mismatch bs p Back at e = absurd cc
to-mismatch bs p (BackTo n) at e = absurd cc

-- The block at this place is misplaced.
abbrev Misplaced : List ControlBlock → ℕ → Type 0
Misplaced bs p = (c : Control) × (control_at bs p ≡ Some c) × (is_misplaced (open_before bs p) c ≡ true)

-- A head inside a loop of its name is misplaced.
head-misplaced : (bs : List ControlBlock) (p n : ℕ) → head_name (control_at bs p) ≡ Some n
    → Contains (names (open_before bs p)) n → Misplaced bs p
head-misplaced bs p n named w = go (control_at bs p) refl where
  has : (m : ℕ) → Some m ≡ Some n → has_name m (open_before bs p) ≡ true
  has m e = ap (λ k. has_name k (open_before bs p)) (some_is e) ∙ contains-has n w.0 (open_before bs p) w.1 w.2

  in-head : (c : Control) → control_at bs p ≡ Some c → head_name (Some c) ≡ Some n → Misplaced bs p
  in-head (While m) at is = (While m, at, has m is)
  in-head (Do m) at is = (Do m, at, has m is)
  in-head _ at is = absurd cc

  go : (o : Option Control) → control_at bs p ≡ o → Misplaced bs p
  go None at = let none : None ≡ Some n = sym (ap head_name at) ∙ named in absurd cc
  go (Some c) at = in-head c at (sym (ap head_name at) ∙ named)

-- A mismatch is a misplaced block or an unclosed head.
from-mismatch : (bs : List ControlBlock) (p : ℕ) → IsMismatch bs p
    → Contains (places (open_before bs (length bs))) p ⊎ Misplaced bs p
from-mismatch bs p (unclosed w) = inl w
from-mismatch bs p (unopened n at none) =
    inr (EndLoop n, at, true-not (is_latest n (open_before bs p)) (λ e. none (latest-contains n (open_before bs p) e)))
from-mismatch bs p (nested n named w) = inr (head-misplaced bs p n named w)
from-mismatch bs p (overlap n at w ne) =
    inr (EndLoop n, at, true-not (is_latest n (open_before bs p)) (λ e. ne (latest-true n (open_before bs p) e)))

-- The places of the open loops fall from a bound: each is below the one before it.
abbrev Falls : ℕ → List Open → Type 0
Falls m [] = Unit {0}
Falls m (x ∷ xs) = (x.place < m) × Falls x.place xs

-- Places that fall from a bound fall from each greater one.
falls-raise : (m n : ℕ) (loops : List Open) → m ≤ n → Falls m loops → Falls n loops
falls-raise m n [] l w = tt
falls-raise m n (x ∷ xs) l w = (omega (arith, w.0), w.1)

-- The places of open loops still fall if a loop is closed.
falls-closed : (m n : ℕ) (loops : List Open) → Falls m loops → Falls m (open_after_end n loops)
falls-closed m n [] w = tt
falls-closed m n (x ∷ xs) w = go (falls-closed x.place n xs w.1) (eqb x.name n) where
  go : Falls x.place (open_after_end n xs) → (v : Bool) → Falls m (cond v xs (x ∷ open_after_end n xs))
  go more true = falls-raise x.place m xs (omega (arith, w.0)) w.1
  go more false = (w.0, more)

-- The places of the open loops fall behind one block more.
falls-behind : (place : ℕ) (c : Control) (loops : List Open) → Kind c → Falls place loops
    → Falls (suc place) (open_behind place c loops)
falls-behind place c loops (opening n is push other) w = rw (push place loops) (omega arith, w)
falls-behind place c loops (closing n is) w =
    let to : open_behind place c loops ≡ open_after_end n loops = ap (λ x. open_behind place x loops) is in
    rw to (falls-raise place (suc place) (open_after_end n loops) (omega arith) (falls-closed place n loops w))
falls-behind place c loops (plain none same other) w =
    rw (same place loops) (falls-raise place (suc place) loops (omega arith) w)

-- The places of the open loops fall behind a list of blocks.
falls-after : (bs : List ControlBlock) (place m : ℕ) (loops : List Open) → m ≡ place + length bs → Falls place loops
    → Falls m (open_after place loops bs)
falls-after [] place m loops e w = falls-raise place m loops (omega arith) w
falls-after (b ∷ bs) place m loops e w =
    falls-after bs (suc place) m (open_behind place b.control loops) (omega arith)
    (falls-behind place b.control loops (kind b.control) w)

-- Each place of loops that fall from a bound is below it.
all-below : (m k d : ℕ) (loops : List Open) → Falls m loops → k < length (places loops) → get_or (places loops) k d < m
all-below m k d [] w l = absurd (omega arith)
all-below m zero d (x ∷ xs) w l = w.0
all-below m (suc k) d (x ∷ xs) w l =
    let more = all-below x.place k d xs w.1 (omega arith) in omega (arith, w.0)

-- No loop is open, or the place is the least of the open loops' heads and below the bound.
abbrev Earliest : ℕ → List Open → Option ℕ → Type 0
Earliest m loops None = loops ≡ []
Earliest m loops (Some e) =
    (e < m) × Contains (places loops) e × ((k d : ℕ) → k < length (places loops) → e ≤ get_or (places loops) k d)

-- The least head of open loops and of one loop more, which was opened later, is that of the open
-- ones; if there are none, it is the one more.
earliest-step : (m : ℕ) (x : Open) (xs : List Open) (o : Option ℕ) → x.place < m → Earliest x.place xs o
    → Earliest m (x ∷ xs) (or_else o (Some x.place))
earliest-step m x xs None l w = (l, (0, omega arith, refl), first) where
  first : (k d : ℕ) → k < length (places (x ∷ xs)) → x.place ≤ get_or (places (x ∷ xs)) k d
  first zero d h = omega arith
  first (suc k) d h = let none = ap (λ ls. length (places ls)) w in absurd (omega arith)
earliest-step m x xs (Some e) l w =
    (omega (arith, w.0), (suc w.1.0, omega (arith, w.1.1), w.1.2), more) where
      more : (k d : ℕ) → k < length (places (x ∷ xs)) → e ≤ get_or (places (x ∷ xs)) k d
      more zero d h = omega (arith, w.0)
      more (suc k) d h = w.2 k d (omega arith)

-- The head of the loop that was opened first is the least of the open loops' heads.
earliest-is : (m : ℕ) (loops : List Open) → Falls m loops → Earliest m loops (earliest loops)
earliest-is m [] w = refl
earliest-is m (x ∷ xs) w = earliest-step m x xs (earliest xs) w.0 (earliest-is x.place xs w.1)

-- The head of a loop that is open at the end is no earlier than the one opened first.
unclosed-late : (bs : List ControlBlock) (o : Option ℕ) → Earliest (length bs) (open_before bs (length bs)) o → (p : ℕ)
    → Contains (places (open_before bs (length bs))) p → (e : ℕ) × (o ≡ Some e) × (e ≤ p)
unclosed-late bs None w p k =
    let none = ap (λ ls. length (places ls)) w in absurd (omega (arith, k.1))
unclosed-late bs (Some e) w p k = (e, refl, omega (arith, w.2 k.0 p k.1, k.2))

-- A misplaced block is no earlier than the first one.
misplaced-late : (bs : List ControlBlock) (o : Option ℕ) → Found 0 [] bs o → (p : ℕ) → Misplaced bs p
    → (e : ℕ) × (o ≡ Some e) × (e ≤ p)
misplaced-late bs None w p m =
    let f = w p m.0 (within_control bs p m.0 m.1) m.1 in absurd (let g = m.2 in cc)
misplaced-late bs (Some e) w p m =
    ⊎_elim
    (λ (l : p < w.0). let f = w.3 p m.0 l m.1 in absurd (let g = m.2 in cc))
    (λ (l : w.0 ≤ p). (e, refl, omega (arith, w.1)))
    (cases_lt p w.0)

-- The lesser of the first misplaced block and the first unclosed head is the first mismatch.
lesser-first : (bs : List ControlBlock) (a b : Option ℕ) → Found 0 [] bs a
    → Earliest (length bs) (open_before bs (length bs)) b → IsFirstMismatch bs (lesser a b)
lesser-first bs None None fa eb = λ p m.
    ⊎_elim
    (λ w. let k = (unclosed-late bs None eb p w).1 in absurd cc)
    (λ w. let k = (misplaced-late bs None fa p w).1 in absurd cc)
    (from-mismatch bs p m)
lesser-first bs (Some x) None fa eb = (
  omega (arith, fa.1, within_control bs fa.0 fa.2.0 fa.2.1),
  subst (IsMismatch bs) (sym (fa.1 ∙ omega arith)) (to-mismatch bs fa.0 fa.2.0 fa.2.1 fa.2.2),
  λ p m.
      ⊎_elim
      (λ w. let k = (unclosed-late bs None eb p w).1 in absurd cc)
      (λ w. let k = misplaced-late bs (Some x) fa p w in let e = k.1 in let same : x ≡ k.0 = cc in omega (arith, k.2))
      (from-mismatch bs p m),
)
lesser-first bs None (Some y) fa eb = (
  eb.0,
  unclosed eb.1,
  λ p m.
      ⊎_elim
      (λ w. let k = unclosed-late bs (Some y) eb p w in let e = k.1 in let same : y ≡ k.0 = cc in omega (arith, k.2))
      (λ w. let k = (misplaced-late bs None fa p w).1 in absurd cc)
      (from-mismatch bs p m),
)
lesser-first bs (Some x) (Some y) fa eb = (
  omega (arith, eb.0),
  one (cases_lt x y),
  λ p m.
      ⊎_elim
      (λ w. let k = unclosed-late bs (Some y) eb p w in let e = k.1 in let same : y ≡ k.0 = cc in omega (arith, k.2))
      (λ w. let k = misplaced-late bs (Some x) fa p w in let e = k.1 in let same : x ≡ k.0 = cc in omega (arith, k.2))
      (from-mismatch bs p m),
)
  where
    one : (x < y) ⊎ (y ≤ x) → IsMismatch bs (min x y)
    one (inl l) =
        let e : fa.0 ≡ min x y = omega (arith, fa.1) in
        subst (IsMismatch bs) e (to-mismatch bs fa.0 fa.2.0 fa.2.1 fa.2.2)
    one (inr l) = let e : y ≡ min x y = omega arith in subst (IsMismatch bs) e (unclosed eb.1)

-- The pass over the blocks finds the first mismatch.
pub mismatch-found : (bs : List ControlBlock)
    → IsFirstMismatch bs (lesser (first_misplaced 0 [] bs) (earliest (open_after 0 [] bs)))
mismatch-found bs =
    let all : open_before bs (length bs) ≡ open_after 0 [] bs = ap (open_after 0 []) (take_all (length bs) bs (omega arith)) in
    let falls : Falls (length bs) (open_after 0 [] bs) = falls-after bs 0 (length bs) [] (omega arith) tt in
    lesser-first bs _ _ (misplaced-found bs 0 [])
    (subst (λ (ls : List Open). Earliest (length bs) ls (earliest (open_after 0 [] bs))) (sym all)
    (earliest-is (length bs) (open_after 0 [] bs) falls))

-- An option, or else nothing, is the option.
pub or-else-none : (m : Option ℕ) → or_else m None ≡ m
or-else-none None = refl
or-else-none (Some x) = refl

-- A mismatch stands at a block of the program.
pub mismatch-within : (bs : List ControlBlock) (p : ℕ) → IsMismatch bs p → p < length bs
mismatch-within bs p m =
    ⊎_elim
    (λ (w : Contains (places (open_before bs (length bs))) p).
    let all : open_before bs (length bs) ≡ open_after 0 [] bs = ap (open_after 0 []) (take_all (length bs) bs (omega arith)) in
    let falls : Falls (length bs) (open_before bs (length bs)) =
    subst (Falls (length bs)) (sym all) (falls-after bs 0 (length bs) [] (omega arith) tt) in
    omega (arith, all-below (length bs) w.0 p (open_before bs (length bs)) falls w.1, w.2))
    (λ w. within_control bs p w.0 w.1)
    (from-mismatch bs p m)
