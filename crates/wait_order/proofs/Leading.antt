-- The blocks from which a search for a number leads to a target lie in at most two rows of places:
-- one before the target, and one after from which the search begins anew at the program's start. A
-- stretch is the run of blocks up to a mark: a wait, an end, an M99 without a number, or a loud
-- call. A loud program comes to a wait or an end, itself or by its calls; the others are quiet. For
-- the proofs of src/search_strays.rt, and for Called, Deepest, Listed and Strayed.
use Rattle.std.proofs.Common.{◌≡◌, ◌↔◌, ℕ, zero, suc, ◌+◌, ◌<◌, ◌≤◌, ◌⊎◌, inl, inr, Bool, true, false, List, [], ◌∷◌, length, slice_get, slice_index_or, Option, Some, None, refl, ap, sym, subst, ◌∙◌, arith}
use Rattle.block_order.specs.declared.control.Control.{Control}
use Rattle.block_order.specs.declared.loops.Reach.{Reach}
use Rattle.block_order.specs.declared.program.ControlBlock.{ControlBlock}
use Rattle.block_order.specs.declared.sequence.Finders.{Finders}
use Rattle.block_order.specs.Order.{seek, IsPermitted, Leads}
use Rattle.block_order.specs.Places.{IsFinder, IsNumbered}
use Rattle.block_order.specs.Table.{IsWithin}
use Rattle.wait_order.specs.Waiting.{IsLedTo, IsOtherIn, MayLeadTo, MayLeadBelow, IsSearchStray, IsLeast}
use Rattle.nc_number.specs.Options.{lesser}
use Rattle.wait_order.proofs.Least.{least_same, least_none, least_either}
use Rattle.block_order.proofs.Searches.{led, leads_to}
use Rattle.block_order.proofs.Targets.{seek_stands}
use Rattle.wait_order.proofs.Nearest.{searcher_within}

-- What the tables of block_order say of the searches for n that lead to a target.
pub record Known (ld : ℕ → Bool) (bs : List ControlBlock) (n target : ℕ) (finders : Finders) (reach : Reach) : Type 0 where
  -- There are at most 20,000 blocks.
  pub few : length bs ≤ 20000
  -- Which blocks a search for n leads to the target.
  pub finds : (block : ℕ) → (seek bs block n ≡ Some target) ↔ IsFinder finders block
  -- From which blocks a jump to the target is permitted.
  pub reaches : (block : ℕ) → block < length bs → IsPermitted bs block target ↔ IsWithin reach block

-- A block of the first row is led to the target.
ahead_leads : (ld : ℕ → Bool) (q : Control → Bool) (bs : List ControlBlock) (n target : ℕ) (finders : Finders) (reach : Reach) → Known ld bs n target finders reach
    → (b : ℕ) → IsOtherIn ld q bs finders.low finders.high reach target b → IsLedTo ld q bs n target b
ahead_leads ld q bs n target finders reach known b (from, to, within, at, apart) =
    (at, leads_to bs b n target ((known.finds b).1 (inl (from, to))) ((known.reaches b (searcher_within q bs b at)).1 within), apart)

-- A block of the second row is led to the target.
around_leads : (ld : ℕ → Bool) (q : Control → Bool) (bs : List ControlBlock) (n target low high : ℕ) (finders : Finders) (reach : Reach)
    → Known ld bs n target finders reach → finders.around ≡ Some low
    → (b : ℕ) → IsOtherIn ld q bs low high reach target b → IsLedTo ld q bs n target b
around_leads ld q bs n target low high finders reach known around b (from, to, within, at, apart) =
    (at, leads_to bs b n target ((known.finds b).1 (inr (low, around, from))) ((known.reaches b (searcher_within q bs b at)).1 within), apart)

-- With two rows the lesser of the first blocks of both is the first that is led to the target.
pub least_around : (ld : ℕ → Bool) (q : Control → Bool) (bs : List ControlBlock) (n target low high : ℕ) (finders : Finders) (reach : Reach) (a b : Option ℕ)
    → Known ld bs n target finders reach → finders.around ≡ Some low → 20000 < high
    → IsLeast (IsOtherIn ld q bs finders.low finders.high reach target) a → IsLeast (IsOtherIn ld q bs low high reach target) b
    → IsLeast (IsLedTo ld q bs n target) (lesser a b)
least_around ld q bs n target low high finders reach a b known around wide first second =
    least_either {R = IsLedTo ld q bs n target} a b first second (ahead_leads ld q bs n target finders reach known)
    (around_leads ld q bs n target low high finders reach known around) either
  where
    either : (k : ℕ) → IsLedTo ld q bs n target k
        → IsOtherIn ld q bs finders.low finders.high reach target k ⊎ IsOtherIn ld q bs low high reach target k
    either k (at, leads, apart) =
        let inside = searcher_within q bs k at in
        let way = led bs k n target leads in
        let within = (known.reaches k inside).0 way.1 in
        elim ((known.finds k).0 way.0) [
          | inl h ↦ inl (h.0, h.1, within, at, apart)
          | inr h ↦
              let same : Some low ≡ Some h.0 = sym around ∙ h.1 in
              let it : low ≡ h.0 = cc in
              let from = h.2 in
              let few = known.few in
              inr (omega arith, omega arith, within, at, apart)
        ]

-- With one row its first block is the first that is led to the target.
pub least_ahead : (ld : ℕ → Bool) (q : Control → Bool) (bs : List ControlBlock) (n target : ℕ) (finders : Finders) (reach : Reach) (a : Option ℕ)
    → Known ld bs n target finders reach → finders.around ≡ None
    → IsLeast (IsOtherIn ld q bs finders.low finders.high reach target) a → IsLeast (IsLedTo ld q bs n target) a
least_ahead ld q bs n target finders reach a known around p =
    least_same {R = IsLedTo ld q bs n target} a p (ahead_leads ld q bs n target finders reach known) back
  where
    back : (k : ℕ) → IsLedTo ld q bs n target k → IsOtherIn ld q bs finders.low finders.high reach target k
    back k (at, leads, apart) =
        let way = led bs k n target leads in
        let within = (known.reaches k (searcher_within q bs k at)).0 way.1 in
        elim ((known.finds k).0 way.0) [
          | inl h ↦ (h.0, h.1, within, at, apart)
          | inr h ↦ absurd (let same : ◌≡◌ {A = Option ℕ} None (Some h.0) = sym around ∙ h.1 in cc)
        ]

-- A place within the blocks has a block.
pub stands_at : (bs : List ControlBlock) (i : ℕ) (d : ControlBlock) → i < length bs → slice_get bs i ≡ Some (slice_index_or bs i d)
stands_at [] i d within = absurd (omega arith)
stands_at (b ∷ bs) zero d within = refl
stands_at (b ∷ bs) (suc i) d within = stands_at bs i d (omega arith)

-- The sequence number of the block at a place is the one that the block has.
numbered_as : (bs : List ControlBlock) (i : ℕ) (d : ControlBlock) → i < length bs
    → (n : ℕ) → IsNumbered bs i n ↔ ((slice_index_or bs i d).sequence ≡ Some n)
numbered_as bs i d within n = (λ h. there h, λ e. (slice_index_or bs i d, stands_at bs i d within, e))
  where
    there : IsNumbered bs i n → (slice_index_or bs i d).sequence ≡ Some n
    there (b, at, is) =
        let both : Some (slice_index_or bs i d) ≡ Some b = sym (stands_at bs i d within) ∙ at in
        let same : slice_index_or bs i d ≡ b = cc in
        ap (λ x. x.sequence) same ∙ is

-- If the target's number is sought, the blocks that are led to it by that number are those that may
-- be led to it.
pub least_numbered : (ld : ℕ → Bool) (q : Control → Bool) (may : ℕ → Bool) (bs : List ControlBlock) (number target : ℕ) (sequence a : Option ℕ)
    → ((n : ℕ) → IsNumbered bs target n ↔ (sequence ≡ Some n)) → sequence ≡ Some number → may number ≡ true
    → IsLeast (IsLedTo ld q bs number target) a → IsLeast (MayLeadTo ld q may bs target) a
least_numbered ld q may bs number target sequence a is e sought least =
    least_same {R = MayLeadTo ld q may bs target} a least (λ b h. (number, sought, h)) back
  where
    back : (b : ℕ) → MayLeadTo ld q may bs target b → IsLedTo ld q bs number target b
    back b (m, is_so, (at, leads, apart)) =
        let own : sequence ≡ Some m = (is m).0 (seek_stands bs b m target (led bs b m target leads).0).1 in
        let both : Some m ≡ Some number = sym own ∙ e in
        let same : m ≡ number = cc in
        (at, subst (λ k. Leads bs b k target) same leads, apart)

-- No block may be led to a target whose number is not sought.
pub least_unsought : (ld : ℕ → Bool) (q : Control → Bool) (may : ℕ → Bool) (bs : List ControlBlock) (number target : ℕ) (sequence : Option ℕ)
    → ((n : ℕ) → IsNumbered bs target n ↔ (sequence ≡ Some n)) → sequence ≡ Some number → may number ≡ false
    → IsLeast (MayLeadTo ld q may bs target) None
least_unsought ld q may bs number target sequence is e unsought = least_none {P = MayLeadTo ld q may bs target} none
  where
    none : (b : ℕ) → MayLeadTo ld q may bs target b → ⊥
    none b (m, is_so, (at, leads, apart)) =
        let own : sequence ≡ Some m = (is m).0 (seek_stands bs b m target (led bs b m target leads).0).1 in
        let both : Some m ≡ Some number = sym own ∙ e in
        let same : m ≡ number = cc in
        let not_so : may m ≡ false = ap may same ∙ unsought in
        absurd cc

-- No block may be led to a target without a number.
pub least_unnumbered : (ld : ℕ → Bool) (q : Control → Bool) (may : ℕ → Bool) (bs : List ControlBlock) (target : ℕ) (sequence : Option ℕ)
    → ((n : ℕ) → IsNumbered bs target n ↔ (sequence ≡ Some n)) → sequence ≡ None → IsLeast (MayLeadTo ld q may bs target) None
least_unnumbered ld q may bs target sequence is e = least_none {P = MayLeadTo ld q may bs target} none
  where
    none : (b : ℕ) → MayLeadTo ld q may bs target b → ⊥
    none b (m, is_so, (at, leads, apart)) =
        let own : sequence ≡ Some m = (is m).0 (seek_stands bs b m target (led bs b m target leads).0).1 in
        let both : ◌≡◌ {A = Option ℕ} None (Some m) = sym e ∙ own in
        absurd cc

-- The lesser of the first blocks for the first n targets and for one more is that for the first n +
-- 1.
least_more : (ld : ℕ → Bool) (q : Control → Bool) (may : ℕ → Bool) (bs : List ControlBlock) (n : ℕ) (a b : Option ℕ) → IsLeast (MayLeadBelow ld q may bs n) a
    → IsLeast (MayLeadTo ld q may bs n) b → IsLeast (MayLeadBelow ld q may bs (n + 1)) (lesser a b)
least_more ld q may bs n a b first second =
    least_either {R = MayLeadBelow ld q may bs (n + 1)} a b first second (λ k h. (let below = h.1 in (h.0, omega arith, h.2)))
    (λ k h. (n, omega arith, h)) either
  where
    last : (t : ℕ) → t < n + 1 → (t ≡ n) ⊎ (t < n)
    last t h = grind arith

    either : (k : ℕ) → MayLeadBelow ld q may bs (n + 1) k → MayLeadBelow ld q may bs n k ⊎ MayLeadTo ld q may bs n k
    either k (t, below, h) = go (last t below)
      where
        go : (t ≡ n) ⊎ (t < n) → MayLeadBelow ld q may bs n k ⊎ MayLeadTo ld q may bs n k
        go (inl e) = inr (subst (λ j. MayLeadTo ld q may bs j k) e h)
        go (inr less) = inl (t, less, h)

-- The first block for all targets is the first of the search that may lead to another stretch.
pub least_all : (ld : ℕ → Bool) (q : Control → Bool) (may : ℕ → Bool) (bs : List ControlBlock) (a : Option ℕ) → IsLeast (MayLeadBelow ld q may bs (length bs)) a
    → IsLeast (IsSearchStray ld q may bs) a
least_all ld q may bs a p = least_same {R = IsSearchStray ld q may bs} a p to back
  where
    to : (k : ℕ) → MayLeadBelow ld q may bs (length bs) k → IsSearchStray ld q may bs k
    to k (target, below, (n, is_so, (at, leads, apart))) = (at, n, is_so, (target, leads, apart))

    back : (k : ℕ) → IsSearchStray ld q may bs k → MayLeadBelow ld q may bs (length bs) k
    back k (at, n, is_so, (target, leads, apart)) = (target, (seek_stands bs k n target (led bs k n target leads).0).0, (n, is_so, (at, leads, apart)))

-- After one target more the lesser of the first blocks is the first for all targets so far; the
-- loop of `first_search_stray` counts its places so.
pub target_step : (ld : ℕ → Bool) (q : Control → Bool) (may : ℕ → Bool) (bs : List ControlBlock) (i place : ℕ) (d : ControlBlock) (first nearest : Option ℕ)
    → i < length bs → place ≡ i → IsLeast (MayLeadBelow ld q may bs i) first
    → (place < length bs → ((n : ℕ) → IsNumbered bs place n ↔ ((slice_index_or bs i d).sequence ≡ Some n))
    → IsLeast (MayLeadTo ld q may bs place) nearest)
    → IsLeast (MayLeadBelow ld q may bs (i + 1)) (lesser first nearest)
target_step ld q may bs i place d first nearest within at before here =
    least_more ld q may bs i first nearest before
    (subst (λ k. IsLeast (MayLeadTo ld q may bs k) nearest) at
    (here (omega arith) (subst (λ k. (n : ℕ) → IsNumbered bs k n ↔ ((slice_index_or bs i d).sequence ≡ Some n)) (sym at) (numbered_as bs i d within))))
