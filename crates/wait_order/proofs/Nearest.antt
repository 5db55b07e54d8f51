-- The lists of blocks that search say which is the nearest one in another stretch than a target. A
-- stretch is the run of blocks up to a mark: a wait, an end, an M99 without a number, or a loud
-- call. A loud program comes to a wait or an end, itself or by its calls; the others are quiet. For
-- the proofs of `first_other` (src/searchers.rt), `first_in` (src/search_strays.rt) and
-- `first_of_search` (src/view.rt), and for Leading.
use Rattle.std.proofs.Common.{◌≡◌, ◌≢◌, ℕ, zero, suc, ◌+◌, ◌-◌, ◌<◌, ◌≤◌, Bool, true, false, List, [], ◌∷◌, length, drop, Some, None, slice_index, refl, ap, sym, subst, ◌∙◌, arith, zero-add, length-drop}
use Rattle.block_order.specs.declared.control.Control.{Control}
use Rattle.block_order.specs.declared.program.ControlBlock.{ControlBlock}
use Rattle.block_order.specs.Order.{control_at}
use Rattle.block_order.specs.Loud.{mark_of, stretch}
use Rattle.wait_order.specs.Stretches.{stretches_from}
use Rattle.wait_order.specs.Searchers.{next_searcher, later_searcher, behind_marks, AreNext, AreLater, IsSearcherAt}
use Rattle.wait_order.specs.Ahead.{IsFirstOther}
use Rattle.block_order.specs.declared.loops.Reach.{Reach}
use Rattle.wait_order.specs.Waiting.{IsOtherIn, IsLeast}
use Rattle.wait_order.proofs.Least.{least_none}
use Rattle.wait_order.proofs.Stretched.{stretch_behind, stretches_are, stretch_rises}
use Rattle.block_order.proofs.Opened.{within_control}
use Rattle.block_order.proofs.Searches.{control_drop}

-- The marks before a block are those of the first n blocks and those from there on.
stretch_drop : (ld : ℕ → Bool) (bs : List ControlBlock) (n i : ℕ)
    → stretch ld bs (n + i) ≡ stretch ld bs n + stretch ld (drop n bs) i
stretch_drop ld bs zero i = let e : 0 + i ≡ i = omega arith in ap (λ k. stretch ld bs k) e ∙ sym (zero-add (stretch ld bs i))
stretch_drop ld [] (suc n) zero = let e : suc n + 0 ≡ suc n = omega arith in ap (λ k. stretch ld [] k) e
stretch_drop ld [] (suc n) (suc i) = let e : suc n + suc i ≡ suc (n + suc i) = omega arith in ap (λ k. stretch ld [] k) e
stretch_drop ld (b ∷ bs) (suc n) i =
    let e : suc n + i ≡ suc (n + i) = omega arith in
    ap (λ k. stretch ld (b ∷ bs) k) e
    ∙ omega (arith, stretch_behind ld b bs (n + i), stretch_behind ld b bs n, stretch_drop ld bs n i)

-- A block that searches among those after the first n is one of all, n places further on.
searcher_behind : (q : Control → Bool) (bs : List ControlBlock) (n i k : ℕ) → k ≡ n + i → IsSearcherAt q (drop n bs) i
    → IsSearcherAt q bs k
searcher_behind q bs n i k e (c, at, is) = (c, ap (λ j. control_at bs j) e ∙ (sym (control_drop bs n i) ∙ at), is)

-- A block that searches behind the first n is one of those after them, n places nearer.
searcher_ahead : (q : Control → Bool) (bs : List ControlBlock) (n i k : ℕ) → n + i ≡ k → IsSearcherAt q bs k
    → IsSearcherAt q (drop n bs) i
searcher_ahead q bs n i k e (c, at, is) = (c, control_drop bs n i ∙ (ap (λ j. control_at bs j) e ∙ at), is)

-- A block that searches is one of the blocks.
pub searcher_within : (q : Control → Bool) (bs : List ControlBlock) (k : ℕ) → IsSearcherAt q bs k → k < length bs
searcher_within q bs k (c, at, is) = within_control bs k c at

-- A first block that does not search is no searcher.
not_searcher : (q : Control → Bool) (b : ControlBlock) (bs : List ControlBlock) → q b.control ≡ false → IsSearcherAt q (b ∷ bs) 0 → ⊥
not_searcher q b bs e (c, at, is) =
    let same : b.control ≡ c = cc in
    let f : q b.control ≡ true = ap q same ∙ is in
    absurd cc

-- `found` is the nearest block that searches, `ahead` places from `place` on, or the end.
record IsNext (q : Control → Bool) (bs : List ControlBlock) (place found : ℕ) : Type 0 where
  -- How many places it is ahead.
  ahead : ℕ
  -- Its place, counted from `place`.
  at : found ≡ place + ahead
  -- It is one of the blocks or the end.
  within : ahead ≤ length bs
  -- If it is a block, it searches.
  is : ahead < length bs → IsSearcherAt q bs ahead
  -- No block before it searches.
  first : (k : ℕ) → IsSearcherAt q bs k → ahead ≤ k

-- What `next_searcher` gives is the nearest block that searches, or the end.
next_is : (q : Control → Bool) (bs : List ControlBlock) (place : ℕ) → IsNext q bs place (next_searcher q bs place)
next_is q [] place = record { ahead = 0; at = omega arith; within = omega arith; is = λ lt. absurd (omega arith); first = λ k e. omega arith }
next_is q (b ∷ bs) place = go (next_is q bs (suc place)) (q b.control) refl
  where
    behind : IsNext q bs (suc place) (next_searcher q bs (suc place)) → q b.control ≡ false → (k : ℕ)
        → (r : IsNext q bs (suc place) (next_searcher q bs (suc place))) → IsSearcherAt q (b ∷ bs) k → suc r.ahead ≤ k
    behind u n zero r e = absurd (not_searcher q b bs n e)
    behind u n (suc k) r e = let le = r.first k e in omega arith

    go : IsNext q bs (suc place) (next_searcher q bs (suc place)) → (x : Bool) → q b.control ≡ x
        → IsNext q (b ∷ bs) place (next_searcher q (b ∷ bs) place)
    go r true y = rw y (record {
      ahead = 0;
      at = omega arith;
      within = omega arith;
      is = λ lt. (b.control, refl, y);
      first = λ k e. omega arith;
    })
    go r false y = rw y (record {
      ahead = suc r.ahead;
      at = (let at = r.at in omega arith);
      within = (let within = r.within in omega arith);
      is = λ lt. r.is (omega arith);
      first = λ k e. behind r y k r e;
    })

-- `found` is the nearest block that searches after the stretch, `ahead` places from `place` on, or
-- the end.
record IsLater (ld : ℕ → Bool) (q : Control → Bool) (bs : List ControlBlock) (place found : ℕ) : Type 0 where
  -- How many places it is ahead.
  ahead : ℕ
  -- Its place, counted from `place`.
  at : found ≡ place + ahead
  -- It is one of the blocks or the end.
  within : ahead ≤ length bs
  -- If it is a block, it searches and lies after the stretch.
  is : ahead < length bs → (IsSearcherAt q bs ahead) × (0 < stretch ld bs ahead)
  -- No block before it searches and lies after the stretch.
  first : (k : ℕ) → IsSearcherAt q bs k → 0 < stretch ld bs k → ahead ≤ k

-- What `later_searcher` gives is the nearest block that searches after the stretch, or the end.
later_is : (ld : ℕ → Bool) (q : Control → Bool) (bs : List ControlBlock) (place : ℕ) → IsLater ld q bs place (later_searcher ld q bs place)
later_is ld q [] place = record { ahead = 0; at = omega arith; within = omega arith; is = λ lt. absurd (omega arith); first = λ k e s. omega arith }
later_is ld q (b ∷ bs) place = go (later_is ld q bs (suc place)) (length (mark_of ld b.control)) refl
  where
    behind_next : (r : IsNext q bs (suc place) (next_searcher q bs (suc place))) (k : ℕ) → IsSearcherAt q (b ∷ bs) k
        → 0 < stretch ld (b ∷ bs) k → suc r.ahead ≤ k
    behind_next r zero e s = absurd (omega arith)
    behind_next r (suc k) e s = let le = r.first k e in omega arith

    behind_later : (r : IsLater ld q bs (suc place) (later_searcher ld q bs (suc place))) → length (mark_of ld b.control) ≡ 0
        → (k : ℕ) → IsSearcherAt q (b ∷ bs) k → 0 < stretch ld (b ∷ bs) k → suc r.ahead ≤ k
    behind_later r none zero e s = absurd (omega arith)
    behind_later r none (suc k) e s =
        let le = r.first k e (omega (arith, stretch_behind ld b bs k)) in omega arith

    go : IsLater ld q bs (suc place) (later_searcher ld q bs (suc place)) → (m : ℕ) → length (mark_of ld b.control) ≡ m
        → IsLater ld q (b ∷ bs) place (behind_marks m (next_searcher q bs (suc place)) (later_searcher ld q bs (suc place)))
    go r zero y = record {
      ahead = suc r.ahead;
      at = (let at = r.at in omega arith);
      within = (let within = r.within in omega arith);
      is = λ lt. (let was = r.is (omega arith) in let s = was.1 in (was.0, omega (arith, stretch_behind ld b bs r.ahead)));
      first = λ k e s. behind_later r y k e s;
    }
    go r (suc m) y =
        let n = next_is q bs (suc place) in
        record {
          ahead = suc n.ahead;
          at = (let at = n.at in omega arith);
          within = (let within = n.within in omega arith);
          is = λ lt. (n.is (omega arith), omega (arith, stretch_behind ld b bs n.ahead));
          first = λ k e s. behind_next n k e s;
        }

-- `near` is the nearest block that searches at `from` or after it, or the end.
record IsNear (q : Control → Bool) (bs : List ControlBlock) (from near : ℕ) : Type 0 where
  -- It is one of the blocks or the end.
  within : near ≤ length bs
  -- It is not before `from`.
  behind : from ≤ near
  -- If it is a block, it searches.
  is : near < length bs → IsSearcherAt q bs near
  -- No block between them searches.
  first : (block : ℕ) → from ≤ block → IsSearcherAt q bs block → near ≤ block

-- What the list has for a place is the nearest block that searches at that place or after it, or
-- the end.
near_is : (q : Control → Bool) (bs : List ControlBlock) (next : List ℕ) (from near : ℕ) → AreNext q bs 0 next → from ≤ length bs
    → near ≡ slice_index next from → IsNear q bs from near
near_is q bs next from near nexts to e =
    let r = next_is q (drop from bs) from in
    let at : near ≡ from + r.ahead = e ∙ (nexts.each from (omega arith) to ∙ r.at) in
    let short = r.within in
    record {
      within = omega (arith, length-drop from bs);
      behind = omega arith;
      is = λ lt. searcher_behind q bs from r.ahead near at (r.is (omega (arith, length-drop from bs)));
      first = λ b le c.
          let k = b - from in
          let sum : from + k ≡ b = omega arith in
          let less = r.first k (searcher_ahead q bs from k b sum c) in
          omega arith;
    }

-- The list of stretches has the stretch of each block.
stretch_seen : (ld : ℕ → Bool) (bs : List ControlBlock) (ss : List ℕ) (place x : ℕ) → ss ≡ stretches_from ld 0 bs → place < length bs
    → x ≡ slice_index ss place → x ≡ stretch ld bs place
stretch_seen ld bs ss place x e within ex =
    ex ∙ (ap (λ s. slice_index s place) e ∙ (stretches_are ld bs 0 place 0 within ∙ zero-add (stretch ld bs place)))

-- If the nearest block that searches lies in another stretch than the target, it is the first such.
pub near_other : (ld : ℕ → Bool) (q : Control → Bool) (bs : List ControlBlock) (next ss : List ℕ) (from target near x y : ℕ) → AreNext q bs 0 next
    → ss ≡ stretches_from ld 0 bs → from ≤ length bs → target < length bs → near ≡ slice_index next from
    → x ≡ slice_index ss near → y ≡ slice_index ss target → x ≢ y → IsFirstOther ld q bs from target near
near_other ld q bs next ss from target near x y nexts e to within en ex ey differs =
    let n = near_is q bs next from near nexts to en in
    record {
      within = n.within;
      is = λ lt. (
        n.behind,
        n.is lt,
        λ same. differs (stretch_seen ld bs ss near x e lt ex ∙ (same ∙ sym (stretch_seen ld bs ss target y e within ey))),
      );
      first = λ b le c d. n.first b le c;
    }

-- If the nearest block that searches lies in the stretch of the target, the first in another
-- stretch is the one listed after that stretch.
pub near_same : (ld : ℕ → Bool) (q : Control → Bool) (bs : List ControlBlock) (next later ss : List ℕ) (from target near x y found : ℕ) → AreNext q bs 0 next
    → AreLater ld q bs 0 later → ss ≡ stretches_from ld 0 bs → from ≤ length bs → target < length bs → near ≡ slice_index next from
    → x ≡ slice_index ss near → y ≡ slice_index ss target → x ≡ y → found ≡ slice_index later near → IsFirstOther ld q bs from target found
near_same ld q bs next later ss from target near x y found nexts laters e to within en ex ey same ef = record {
  within = omega (arith, length-drop near bs, near_within, at, r.within);
  is = λ lt. hit lt;
  first = λ b le c d. none_before b le c d;
}
  where
    n : IsNear q bs from near
    n = near_is q bs next from near nexts to en

    near_within : near ≤ length bs
    near_within = n.within

    r : IsLater ld q (drop near bs) near (later_searcher ld q (drop near bs) near)
    r = later_is ld q (drop near bs) near

    at : found ≡ near + r.ahead
    at = ef ∙ (laters.each near (omega arith) near_within ∙ r.at)

    together : near < length bs → stretch ld bs near ≡ stretch ld bs target
    together lt = sym (stretch_seen ld bs ss near x e lt ex) ∙ (same ∙ stretch_seen ld bs ss target y e within ey)

    hit : found < length bs → (from ≤ found) × (IsSearcherAt q bs found) × (stretch ld bs found ≢ stretch ld bs target)
    hit lt =
        let is = r.is (omega (arith, length-drop near bs, at)) in
        let above = is.1 in
        let near_in : near < length bs = omega (arith, at) in
        let behind = n.behind in (
          omega (arith, at, behind),
          searcher_behind q bs near r.ahead found at is.0,
          λ eq. absurd (omega (arith, eq, together near_in, ap (λ k. stretch ld bs k) at, stretch_drop ld bs near r.ahead, above)),
        )

    none_before : (b : ℕ) → from ≤ b → IsSearcherAt q bs b → stretch ld bs b ≢ stretch ld bs target → found ≤ b
    none_before b le c d =
        let least = n.first b le c in
        let b_in = searcher_within q bs b c in
        let near_in : near < length bs = omega (arith, least, b_in) in
        let k = b - near in
        let sum : near + k ≡ b = omega (arith, least) in
        let rises = stretch_rises ld bs near b least in
        let apart : stretch ld bs b ≢ stretch ld bs near = (λ eq. d (eq ∙ together near_in)) in
        let cut = stretch_drop ld bs near k in
        let whole = ap (λ j. stretch ld bs j) sum in
        let more : 0 < stretch ld (drop near bs) k = grind (arith, rises, apart, cut, whole) in
        let less = r.first k (searcher_ahead q bs near k b sum c) more in
        omega (arith, less, at, sum)

-- A first block in another stretch that lies within both bounds and within reach is the least
-- there.
pub first_inside : (ld : ℕ → Bool) (q : Control → Bool) (bs : List ControlBlock) (low high target from found : ℕ) (reach : Reach)
    → IsFirstOther ld q bs from target found → low ≤ from → reach.low ≤ from → found < length bs → (found < high) × (found ≤ reach.high)
    → ((b : ℕ) → low ≤ b → reach.low ≤ b → from ≤ b) → IsLeast (IsOtherIn ld q bs low high reach target) (Some found)
first_inside ld q bs low high target from found reach first above above_reach within below lowest = record {
  holds = λ n e. subst (λ k. IsOtherIn ld q bs low high reach target k) (let both : Some found ≡ Some n = e in let same : found ≡ n = cc in same) here;
  least = λ n h. first.first n (lowest n h.0 h.2.0) h.3 h.4;
}
  where
    here : IsOtherIn ld q bs low high reach target found
    here =
        let is = first.is within in
        let behind = is.0 in
        let under = below.1 in
        (omega arith, below.0, (omega arith, under), is.1, is.2)

-- If the first block in another stretch lies beyond the bounds or out of reach, there is none
-- within.
pub none_inside : (ld : ℕ → Bool) (q : Control → Bool) (bs : List ControlBlock) (low high target from found : ℕ) (reach : Reach)
    → IsFirstOther ld q bs from target found → ((b : ℕ) → low ≤ b → reach.low ≤ b → from ≤ b)
    → ((b : ℕ) → b < length bs → found ≤ b → b < high → b ≤ reach.high → ⊥)
    → IsLeast (IsOtherIn ld q bs low high reach target) None
none_inside ld q bs low high target from found reach first lowest past = least_none {P = IsOtherIn ld q bs low high reach target} none
  where
    none : (n : ℕ) → IsOtherIn ld q bs low high reach target n → ⊥
    none n (l, h, within, at, apart) =
        past n (searcher_within q bs n at) (first.first n (lowest n l within.0) at apart) h within.1
