-- The search for a sequence number is the search in the list of its places. For the proofs of
-- src/sequence.rt. The file's name stands for the number that is sought.
use Rattle.std.proofs.Common.{◌≡◌, ℕ, zero, suc, ◌+◌, ◌-◌, ◌<◌, ◌≤◌, ◌↔◌, ◌⊎◌, inl, inr, Bool, true, false, cond, nat_lt, eqb, leb, ltb, ◌≢◌, List, [], ◌∷◌, ◌++◌, length, get_or, take, drop, Option, Some, None, refl, sym, ap, ◌∙◌, arith}
use Rattle.std.proofs.lemmas.List.{take_more, length-take-le, append-nil}
use Rattle.std.proofs.Common.{⊎_elim}
use Rattle.std.proofs.lemmas.Bool.{cases_eq}
use Rattle.std.specs.List.Sorted.{IsNonDecreasingBy}
use Rattle.std.specs.Option.{option_or}
use Rattle.std.proofs.lemmas.Option.{slice_get-get_or}
use Rattle.std.specs.List.{slice_get}
use Rattle.std.proofs.lemmas.Bool.Decides.{nat_tests}
use Rattle.nc_number.proofs.Counts.{le_or_lt, lt_false, lt_true}
use Rattle.block_order.specs.declared.program.ControlBlock.{ControlBlock}
use Rattle.block_order.specs.Order.{has_sequence, first_numbered, or_else, seek}
use Rattle.block_order.specs.Places.{places_from, places_of, IsNumbered, IsFinder}

-- The first number of the list that is above this one.
abbrev pub first_above : ℕ → List ℕ → Option ℕ
first_above low [] = None
first_above low (x ∷ xs) = cond (nat_lt low x) (Some x) (first_above low xs)

-- Each number of the list is above the one before it, and the first is no lower than this one.
abbrev pub Rises : ℕ → List ℕ → Type 0
Rises low [] = Unit {0}
Rises low (x ∷ xs) = (low ≤ x) × Rises (suc x) xs

-- The first block of a sequence number stands at the first of its places.
first-numbered : (bs : List ControlBlock) (p n : ℕ) → first_numbered bs p n ≡ slice_get (places_from bs p n) 0
first-numbered [] p n = refl
first-numbered (b ∷ bs) p n =
    elim (has_sequence n b.sequence)
    as (λ v. cond v (Some p) (first_numbered bs (suc p) n) ≡ slice_get (cond v (p ∷ places_from bs (suc p) n) (places_from bs (suc p) n)) 0)
    [ true ↦ refl | false ↦ first-numbered bs (suc p) n ]

-- A rising list rises from a lower bound too.
rises-lower : (low : ℕ) (xs : List ℕ) → Rises (suc low) xs → Rises low xs
rises-lower low [] h = tt
rises-lower low (x ∷ xs) h = (omega arith, h.1)

-- Places that rise from p + 1 on rise from p on, with p in front of them or without it.
rises-cond : (v : Bool) (p : ℕ) (xs : List ℕ) → Rises (suc p) xs → Rises p (cond v (p ∷ xs) xs)
rises-cond true p xs h = (omega arith, h)
rises-cond false p xs h = rises-lower p xs h

-- The places of a number rise.
places-rise : (bs : List ControlBlock) (p n : ℕ) → Rises p (places_from bs p n)
places-rise [] p n = tt
places-rise (b ∷ bs) p n = rises-cond (has_sequence n b.sequence) p (places_from bs (suc p) n) (places-rise bs (suc p) n)

-- If all numbers of a list are above the bound, the first above it is the first of the list.
above-low : (low p : ℕ) (xs : List ℕ) → low < p → Rises p xs → first_above low xs ≡ slice_get xs 0
above-low low p [] h r = refl
above-low low p (x ∷ xs) h r = rw (lt_true low x (omega arith)) refl

-- A place in front that is not above the bound does not change the first one above it.
above-cond : (v : Bool) (m p : ℕ) (xs : List ℕ) → p ≤ m → first_above m (cond v (p ∷ xs) xs) ≡ first_above m xs
above-cond true m p xs h = rw (lt_false m p h) refl
above-cond false m p xs h = refl

-- The search behind a block finds the first place above the block's.
sought-above : (bs : List ControlBlock) (k p n m : ℕ) → m ≡ p + k
    → first_numbered (drop (suc k) bs) (suc m) n ≡ first_above m (places_from bs p n)
sought-above [] k p n m e = refl
sought-above (b ∷ bs) zero p n m e =
    let same : m ≡ p = omega arith in
    first-numbered bs (suc m) n
    ∙ sym (above-low m (suc m) (places_from bs (suc m) n) (omega arith) (places-rise bs (suc m) n))
    ∙ ap (λ q. first_above m (places_from bs (suc q) n)) same
    ∙ sym (above-cond (has_sequence n b.sequence) m p (places_from bs (suc p) n) (omega arith))
sought-above (b ∷ bs) (suc k) p n m e =
    sought-above bs k (suc p) n m (omega arith)
    ∙ sym (above-cond (has_sequence n b.sequence) m p (places_from bs (suc p) n) (omega arith))

-- The search for a number finds the first of its places above the block's, or else the first of
-- all.
pub seek-places : (bs : List ControlBlock) (from n : ℕ)
    → seek bs from n ≡ or_else (first_above from (places_of bs n)) (slice_get (places_of bs n) 0)
unfolding places_of
seek-places bs from n = rw (sought-above bs from 0 n from (omega arith), first-numbered bs 0 n) refl

-- The places of a sequence number in a program rise.
pub places_of-rise : (bs : List ControlBlock) (n : ℕ) → Rises 0 (places_of bs n)
unfolding places_of
places_of-rise bs n = places-rise bs 0 n

-- No number of a list that rises from a bound is below it.
rises-least : (p : ℕ) (xs : List ℕ) → Rises p xs → (j d : ℕ) → j < length xs → p ≤ get_or xs j d
rises-least p (x ∷ xs) r zero d h = r.0
rises-least p (x ∷ xs) r (suc j) d h =
    let more = rises-least (suc x) xs r.1 j d (omega arith) in omega (arith, more, r.0)
rises-least p [] r j d h = absurd (omega arith)

-- In a rising list a later number is greater.
rises-apart : (p : ℕ) (xs : List ℕ) → Rises p xs → (i j d : ℕ) → i < j → j < length xs → get_or xs i d < get_or xs j d
rises-apart p (x ∷ xs) r zero (suc j) d h l = rises-least (suc x) xs r.1 j d (omega arith)
rises-apart p (x ∷ xs) r (suc i) (suc j) d h l = rises-apart (suc x) xs r.1 i j d (omega arith) (omega arith)
rises-apart p (x ∷ xs) r i zero d h l = absurd (omega arith)
rises-apart p [] r i j d h l = absurd (omega arith)

-- If the numbers before i are not above the bound and that at i is, the first above it stands at i.
pub above_at : (xs : List ℕ) (low i : ℕ) → ((k : ℕ) → k < i → get_or xs k 0 ≤ low)
    → (i < length xs → low < get_or xs i 0) → i ≤ length xs → first_above low xs ≡ slice_get xs i
above_at [] low i below here h = refl
above_at (x ∷ xs) low zero below here h = rw (lt_true low x (here (omega arith))) refl
above_at (x ∷ xs) low (suc i) below here h =
    rw (lt_false low x (below 0 (omega arith)))
    (above_at xs low i (λ k l. below (suc k) (omega arith)) (λ l. here (omega arith)) (omega arith))

-- No number of the list is above the bound, or the one at some j is the first that is.
abbrev Above : ℕ → List ℕ → Type 0
Above low xs =
    ((first_above low xs ≡ None) × ((k : ℕ) → k < length xs → get_or xs k 0 ≤ low))
    ⊎ ((j : ℕ) × (j < length xs) × (first_above low xs ≡ Some (get_or xs j 0)) × (low < get_or xs j 0)
    × ((k : ℕ) → k < j → get_or xs k 0 ≤ low))

-- If no number of a list is above the bound, none is with one number more in front that is not.
none-more : (low x : ℕ) (xs : List ℕ) → x ≤ low → ((k : ℕ) → k < length xs → get_or xs k 0 ≤ low)
    → (k : ℕ) → k < length (x ∷ xs) → get_or (x ∷ xs) k 0 ≤ low
none-more low x xs h f zero l = h
none-more low x xs h f (suc k) l = f k (omega arith)

-- If no number before j is above the bound, none before j + 1 is with one number more in front that
-- is not.
less-more : (low x j : ℕ) (xs : List ℕ) → x ≤ low → ((k : ℕ) → k < j → get_or xs k 0 ≤ low)
    → (k : ℕ) → k < suc j → get_or (x ∷ xs) k 0 ≤ low
less-more low x j xs h f zero l = h
less-more low x j xs h f (suc k) l = f k (omega arith)

-- What is known of the first number above the bound is known with one number more in front that is
-- not above it.
above-more : (low x : ℕ) (xs : List ℕ) → x ≤ low → Above low xs → Above low (x ∷ xs)
above-more low x xs h (inl w) = inl (rw (lt_false low x h) w.0, none-more low x xs h w.1)
above-more low x xs h (inr w) =
    inr (suc w.0, omega (arith, w.1), rw (lt_false low x h) w.2, w.3, less-more low x w.0 xs h w.4)

-- What is known of the first number above the bound is known with one number more in front, of
-- which a test tells whether it is above.
above_step : (low x : ℕ) (xs : List ℕ) → Above low xs → (b : Bool) → nat_lt low x ≡ b → Above low (x ∷ xs)
above_step low x xs w true e = inr (0, omega arith, rw e refl, grind (arith, nat_tests), λ k l. absurd (omega arith))
above_step low x xs w false e = let le : x ≤ low = grind (arith, nat_tests) in above-more low x xs le w

-- Of each list it is known whether a number is above the bound, and which is the first.
above_cases : (low : ℕ) (xs : List ℕ) → Above low xs
above_cases low [] = inl (refl, λ k l. absurd (omega arith))
above_cases low (x ∷ xs) = above_step low x xs (above_cases low xs) (nat_lt low x) refl

-- A place more or none, in front of two joined lists, is in front of the first of them.
cond-append : (v : Bool) (xs ys : List ℕ) (x : ℕ) → cond v (x ∷ (xs ++ ys)) (xs ++ ys) ≡ cond v (x ∷ xs) xs ++ ys
cond-append true xs ys x = refl
cond-append false xs ys x = refl

-- The places of a number, with one block pushed behind, are those before and that block's place if
-- it has the number.
places-push : (bs : List ControlBlock) (b : ControlBlock) (p n : ℕ)
    → places_from (bs ++ b ∷ []) p n ≡ places_from bs p n ++ cond (has_sequence n b.sequence) ((p + length bs) ∷ []) []
places-push [] b p n =
    let e : p ≡ p + 0 = omega arith in
    ap (λ q. cond (has_sequence n b.sequence) (q ∷ []) []) e
places-push (a ∷ bs) b p n =
    let e : suc p + length bs ≡ p + suc (length bs) = omega arith in
    let tail = cond (has_sequence n b.sequence) ((p + suc (length bs)) ∷ []) [] in
    let more : places_from (bs ++ b ∷ []) (suc p) n ≡ places_from bs (suc p) n ++ tail =
    places-push bs b (suc p) n
    ∙ ap (λ q. places_from bs (suc p) n ++ cond (has_sequence n b.sequence) (q ∷ []) []) e in
    ap (λ r. cond (has_sequence n a.sequence) (p ∷ r) r) more
    ∙ cond-append (has_sequence n a.sequence) (places_from bs (suc p) n) tail p

-- A block more adds its place, if it has the number, to the places so far.
places_more : (bs : List ControlBlock) (i q : ℕ) (d : ControlBlock) (own : Option ℕ) → i < length bs
    → (get_or bs i d).sequence ≡ own
    → places_from (take (i + 1) bs) 0 q ≡ places_from (take i bs) 0 q ++ cond (has_sequence q own) (i ∷ []) []
places_more bs i q d own h is =
    let len : 0 + length (take i bs) ≡ i = omega (arith, length-take-le i bs (omega arith)) in
    ap (λ r. places_from r 0 q) (take_more bs i d h)
    ∙ places-push (take i bs) (get_or bs i d) 0 q
    ∙ ap (λ k. places_from (take i bs) 0 q ++ cond (has_sequence q (get_or bs i d).sequence) (k ∷ []) []) len
    ∙ ap (λ o. places_from (take i bs) 0 q ++ cond (has_sequence q o) (i ∷ []) []) is

-- A block without a number adds no place to the places so far.
pub places_none : (bs : List ControlBlock) (i q : ℕ) (d : ControlBlock) → i < length bs
    → (get_or bs i d).sequence ≡ None → places_from (take (i + 1) bs) 0 q ≡ places_from (take i bs) 0 q
places_none bs i q d h is = places_more bs i q d None h is ∙ append-nil (places_from (take i bs) 0 q)

-- A block of the number adds its own place to the places so far.
pub places_same : (bs : List ControlBlock) (i q n : ℕ) (d : ControlBlock) → i < length bs
    → (get_or bs i d).sequence ≡ Some n → q ≡ n
    → places_from (take (i + 1) bs) 0 q ≡ places_from (take i bs) 0 q ++ i ∷ []
places_same bs i q n d h is e =
    let test : eqb q n ≡ true = grind (arith, nat_tests) in
    places_more bs i q d (Some n) h is
    ∙ ap (λ v. places_from (take i bs) 0 q ++ cond v (i ∷ []) []) test

-- A block of another number adds no place to the places so far.
pub places_other : (bs : List ControlBlock) (i q n : ℕ) (d : ControlBlock) → i < length bs
    → (get_or bs i d).sequence ≡ Some n → q ≢ n
    → places_from (take (i + 1) bs) 0 q ≡ places_from (take i bs) 0 q
places_other bs i q n d h is e =
    let test : eqb q n ≡ false = grind (arith, nat_tests) in
    places_more bs i q d (Some n) h is
    ∙ ap (λ v. places_from (take i bs) 0 q ++ cond v (i ∷ []) []) test
    ∙ append-nil (places_from (take i bs) 0 q)

-- In a rising list a later number is not less.
rises-order : (p : ℕ) (xs : List ℕ) → Rises p xs → (i j d : ℕ) → i ≤ j → j < length xs → get_or xs i d ≤ get_or xs j d
rises-order p xs r i j d h l =
    ⊎_elim
    (λ (e : i ≡ j). let same : get_or xs i d ≡ get_or xs j d = ap (λ k. get_or xs k d) e in omega arith)
    (λ (ne : i ≢ j). let lt : get_or xs i d < get_or xs j d = rises-apart p xs r i j d (omega arith) l in omega arith)
    (cases_eq i j)

-- A rising list is sorted, as `partition_point` asks.
pub rises-non-decreasing : (p : ℕ) (xs : List ℕ) → Rises p xs → IsNonDecreasingBy (λ x. x) xs
rises-non-decreasing p xs r i j d h l = rises-order p xs r i j d h l

-- A list that is not empty has a first entry.
first_is : (xs : List ℕ) → 0 < length xs → slice_get xs 0 ≡ Some (get_or xs 0 0)
first_is [] h = absurd (omega arith)
first_is (x ∷ xs) h = refl

-- Where a search from a block leads among the places of its number: to the first above the block's,
-- or else to the first.
abbrev pub found : ℕ → List ℕ → Option ℕ
found from xs = or_else (first_above from xs) (slice_get xs 0)

-- A search leads to the first place exactly from blocks before it and from the last place on.
pub finders_first : (xs : List ℕ) (t b : ℕ) → Rises 0 xs → 0 < length xs → get_or xs 0 0 ≡ t
    → (found b xs ≡ Some t) ↔ ((b < t) ⊎ (get_or xs (length xs - 1) 0 ≤ b))
finders_first xs t b r some first = go (above_cases b xs) where
  go : Above b xs → (found b xs ≡ Some t) ↔ ((b < t) ⊎ (get_or xs (length xs - 1) 0 ≤ b))
  go (inl w) = (
    λ _. inr (w.1 (length xs - 1) (omega arith)),
    λ _. rw w.0 (first_is xs some ∙ ap (λ x. Some x) first),
  )
  go (inr w) = (
    λ e.
        let at : Some (get_or xs w.0 0) ≡ Some t = sym (ap (λ o. or_else o (slice_get xs 0)) w.2) ∙ e in
        let same : get_or xs w.0 0 ≡ t = cc in
        inl (omega (arith, w.3)),
    λ side. rw w.2 (ap (λ x. Some x) (back side)),
  )
    where
      back : (b < t) ⊎ (get_or xs (length xs - 1) 0 ≤ b) → get_or xs w.0 0 ≡ t
      back (inl l) =
          ⊎_elim
          (λ (z : w.0 ≡ 0). ap (λ k. get_or xs k 0) z ∙ first)
          (λ (nz : w.0 ≢ 0). absurd (omega (arith, w.4 0 (omega arith), first)))
          (cases_eq w.0 0)
      back (inr l) = absurd (omega (arith, w.3, rises-order 0 xs r w.0 (length xs - 1) 0 (omega (arith, w.1)) (omega arith)))

-- A search leads to a later place exactly from the place before it on, up to it.
pub finders_next : (xs : List ℕ) (t b i : ℕ) → Rises 0 xs → i + 1 < length xs → get_or xs (i + 1) 0 ≡ t
    → (found b xs ≡ Some t) ↔ ((get_or xs i 0 ≤ b) × (b < t))
finders_next xs t b i r within at = go (above_cases b xs) where
  go : Above b xs → (found b xs ≡ Some t) ↔ ((get_or xs i 0 ≤ b) × (b < t))
  go (inl w) = (
    λ e.
        let start : Some (get_or xs 0 0) ≡ Some t = sym (rw w.0 (first_is xs (omega arith))) ∙ e in
        let same : get_or xs 0 0 ≡ t = cc in
        absurd (omega (arith, at, rises-apart 0 xs r 0 (i + 1) 0 (omega arith) within)),
    λ side. absurd (omega (arith, at, side.1, w.1 (i + 1) within)),
  )
  go (inr w) = (
    λ e.
        let here : Some (get_or xs w.0 0) ≡ Some t = sym (ap (λ o. or_else o (slice_get xs 0)) w.2) ∙ e in
        let same : get_or xs w.0 0 ≡ t = cc in (
          ⊎_elim
              (λ (l : w.0 ≤ i). absurd (omega (arith, at, rises-apart 0 xs r w.0 (i + 1) 0 (omega arith) within)))
              (λ (l : i < w.0). w.4 i l)
              (le_or_lt w.0 i),
          omega (arith, w.3),
        ),
    λ side. rw w.2 (ap (λ x. Some x) (ap (λ k. get_or xs k 0) (place side) ∙ at)),
  )
    where
      place : (get_or xs i 0 ≤ b) × (b < t) → w.0 ≡ i + 1
      place side =
          ⊎_elim
          (λ (l : w.0 ≤ i). absurd (omega (arith, side.0, w.3, rises-order 0 xs r w.0 i 0 l (omega arith))))
          (λ (l : i < w.0).
          ⊎_elim
          (λ (m : w.0 ≤ i + 1). omega arith)
          (λ (m : i + 1 < w.0). absurd (omega (arith, side.1, at, w.4 (i + 1) m)))
          (le_or_lt w.0 (i + 1)))
          (le_or_lt w.0 i)

-- A list with a place more in front, or without it, still contains the others.
contains-cond : (v : Bool) (p x : ℕ) (xs : List ℕ) → ((i : ℕ) × (i < length xs) × (get_or xs i 0 ≡ x))
    → (i : ℕ) × (i < length (cond v (p ∷ xs) xs)) × (get_or (cond v (p ∷ xs) xs) i 0 ≡ x)
contains-cond true p x xs w = (suc w.0, omega (arith, w.1), w.2)
contains-cond false p x xs w = w

-- The place of a block with the number is one of the number's places, among blocks of which the
-- first stands at p.
numbered-from : (bs : List ControlBlock) (k p n : ℕ) (block : ControlBlock) → slice_get bs k ≡ Some block
    → block.sequence ≡ Some n
    → (i : ℕ) × (i < length (places_from bs p n)) × (get_or (places_from bs p n) i 0 ≡ p + k)
numbered-from (b ∷ bs) zero p n block at is =
    let same : b ≡ block = cc in
    let has : has_sequence n b.sequence ≡ true =
    ap (λ x. has_sequence n x.sequence) same ∙ ap (λ o. has_sequence n o) is ∙ grind (arith, nat_tests) in
    rw has (0, omega arith, omega arith)
numbered-from (b ∷ bs) (suc k) p n block at is =
    let w = numbered-from bs k (suc p) n block at is in
    contains-cond (has_sequence n b.sequence) p (p + suc k) (places_from bs (suc p) n) (w.0, w.1, w.2 ∙ omega arith)
numbered-from [] k p n block at is = absurd cc

-- The place of a block with the number is one of the number's places.
pub numbered-place : (bs : List ControlBlock) (t n : ℕ) → IsNumbered bs t n
    → (i : ℕ) × (i < length (places_of bs n)) × (get_or (places_of bs n) i 0 ≡ t)
unfolding places_of
numbered-place bs t n w = let at = numbered-from bs t 0 n w.0 w.1 w.2 in (at.0, at.1, at.2 ∙ omega arith)

-- The index at which the numbers of a list below t end is that of t.
pub partition-place : (xs : List ℕ) (t p i : ℕ) → Rises 0 xs → i < length xs → get_or xs i 0 ≡ t
    → ((k : ℕ) → k < p → get_or xs k 0 < t) → ((k : ℕ) → p ≤ k → k < length xs → t ≤ get_or xs k 0) → p ≡ i
partition-place xs t p i r within at below above =
    ⊎_elim
    (λ (l : p ≤ i).
    ⊎_elim
    (λ (m : i ≤ p). omega arith)
    (λ (m : p < i). absurd (omega (arith, at, above p (omega arith) (omega arith), rises-apart 0 xs r p i 0 m within)))
    (le_or_lt i p))
    (λ (l : i < p). absurd (omega (arith, at, below i l)))
    (le_or_lt p i)

-- If the test of at most says yes, the number is at most the other.
pub leb-true : {a b : ℕ} → leb a b ≡ true → a ≤ b
leb-true {a} {b} e = grind (arith, nat_tests)

-- If the test of at most says no, the other number is below this one.
pub leb-false : {a b : ℕ} → leb a b ≡ false → b < a
leb-false {a} {b} e = grind (arith, nat_tests)

-- The code's choice of options is that of the specs.
pub option_or-or_else : (a b : Option ℕ) → option_or a b ≡ or_else a b
option_or-or_else None b = refl
option_or-or_else (Some x) b = refl

-- If the test of below says yes, the number is below the other.
pub ltb-true : {a b : ℕ} → ltb a b ≡ true → a < b
ltb-true {a} {b} e = grind (arith, nat_tests)

-- If the test of below says no, the other number is at most this one.
pub ltb-false : {a b : ℕ} → ltb a b ≡ false → b ≤ a
ltb-false {a} {b} e = grind (arith, nat_tests)

-- A list that is not empty has its last entry at the index below its length.
pub last-get : (xs : List ℕ) → 0 < length xs → slice_get xs (length xs - 1) ≡ Some (get_or xs (length xs - 1) 0)
last-get xs h = slice_get-get_or xs (length xs - 1) 0 (omega arith)

-- If the search comes to the block t exactly from before it and from the last place on, the finders
-- that begin at 0 and go round name exactly these blocks.
pub finder_sides : (t last block : ℕ) (r f around : Option ℕ) → around ≡ Some last → r ≡ f
    → (f ≡ Some t) ↔ ((block < t) ⊎ (last ≤ block))
    → (r ≡ Some t) ↔ IsFinder (record { low = 0; high = t; around = around }) block
finder_sides t last block r f around is same side =
    (λ e. into (side.0 (sym same ∙ e)), λ w. same ∙ side.1 (from w)) where
      into : (block < t) ⊎ (last ≤ block) → IsFinder (record { low = 0; high = t; around = around }) block
      into (inl l) = inl (omega arith, l)
      into (inr l) = inr (last, is, l)

      from : IsFinder (record { low = 0; high = t; around = around }) block → (block < t) ⊎ (last ≤ block)
      from (inl w) = inl w.1
      from (inr w) =
          let e : Some last ≡ Some w.0 = sym is ∙ w.1 in
          let k : last ≡ w.0 = cc in
          inr (omega (arith, w.2))

-- If the search comes to a block exactly from the place before it on, up to it, the finders between
-- the two name exactly these blocks.
pub finder_only : (low t block : ℕ) (r f : Option ℕ) → r ≡ f → (f ≡ Some t) ↔ ((low ≤ block) × (block < t))
    → (r ≡ Some t) ↔ IsFinder (record { low = low; high = t; around = None }) block
finder_only low t block r f same side = (λ e. inl (side.0 (sym same ∙ e)), λ w. same ∙ side.1 (from w)) where
  from : IsFinder (record { low = low; high = t; around = None }) block → (low ≤ block) × (block < t)
  from (inl w) = w
  from (inr w) = let e = w.1 in absurd cc
