-- The list that has, for each place, the next block that searches after its stretch is filled from
-- the last place back: one place more. A stretch is the run of blocks up to a wait, an end, an M99
-- without a number, or a call that leads to a wait or an end. For the proof of `later_searchers`
-- (src/searchers.rt).
use Rattle.std.proofs.Common.{◌≡◌, ◌≢◌, ℕ, suc, ◌<◌, ◌≤◌, ◌⊎◌, inl, inr, Bool, List, ◌∷◌, length, drop, slice_index, slice_index_or, slice_set, refl, sym, subst, ◌∙◌, arith}
use Rattle.std.proofs.Math.Seq.{drop-cons}
use Rattle.std.proofs.Math.ListN.{length-set}
use Rattle.std.proofs.lemmas.Grind.{get_or-set_at}
use Rattle.std.proofs.lemmas.List.{get_or-set_other, get_or_read}
use Rattle.block_order.specs.declared.control.Control.{Control}
use Rattle.block_order.specs.declared.program.ControlBlock.{ControlBlock}
use Rattle.block_order.specs.Loud.{mark_of}
use Rattle.wait_order.specs.Searchers.{next_searcher, later_searcher, behind_marks, AreNext, AreLater}

-- A number that is not below m is m or above it.
at_or_above : (m n : ℕ) → m ≤ n → (n ≡ m) ⊎ (suc m ≤ n)
at_or_above m n h = grind arith

-- If the entry of a place is right and the list of later searchers holds from the next place on, it
-- holds from that place on.
later_step : (ld : ℕ → Bool) (q : Control → Bool) (bs : List ControlBlock) (next later : List ℕ) (place value : ℕ) (d : ControlBlock)
    → AreNext q bs 0 next → AreLater ld q bs (suc place) later → place < length bs
    → value ≡ behind_marks (length (mark_of ld (slice_index_or bs place d).control)) (slice_index next (suc place)) (slice_index later (suc place))
    → AreLater ld q bs place (slice_set later place value)
later_step ld q bs next later place value d nexts laters within made = record {
  count = length-set later place value ∙ laters.count;
  each = λ j from to. go j to (at_or_above place j from);
}
  where
    here : value ≡ later_searcher ld q (drop place bs) place
    here =
        let n : slice_index next (suc place) ≡ next_searcher q (drop (suc place) bs) (suc place) = nexts.each (suc place) (omega arith) (omega arith) in
        let l : slice_index later (suc place) ≡ later_searcher ld q (drop (suc place) bs) (suc place) = laters.each (suc place) (omega arith) (omega arith) in
        let cut : drop place bs ≡ slice_index_or bs place d ∷ drop (suc place) bs = drop-cons bs place d within in
        rw (made, n, l, cut) refl

    go : (j : ℕ) → j ≤ length bs → (j ≡ place) ⊎ (suc place ≤ j)
        → slice_index (slice_set later place value) j ≡ later_searcher ld q (drop j bs) j
    go j to (inl e) =
        let long : place < length later = (let count = laters.count in omega arith) in
        get_or-set_at later place j value 0 e long ∙ rw e here
    go j to (inr above) =
        let other : j ≢ place = (λ e. absurd (omega arith)) in
        get_or-set_other later place j value 0 other ∙ laters.each j above to

-- The entry of one place more is set, and the list of later searchers holds from that place on.
pub later_filled : (ld : ℕ → Bool) (q : Control → Bool) (bs : List ControlBlock) (next later : List ℕ) (place from to i marks seen value : ℕ) (d : ControlBlock)
    → AreNext q bs 0 next → AreLater ld q bs from later → place < length bs → from ≡ suc place → to ≡ place → i ≡ suc place
    → marks ≡ length (mark_of ld (slice_index_or bs place d).control) → seen ≡ slice_index_or later i seen
    → value ≡ behind_marks marks (slice_index next i) seen → AreLater ld q bs to (slice_set later place value)
later_filled ld q bs next later place from to i marks seen value d nexts laters within ef et ei em es made =
    let above : AreLater ld q bs (suc place) later = subst (λ k. AreLater ld q bs k later) ef laters in
    let short : i < length later = (let count = laters.count in omega arith) in
    let read : seen ≡ slice_index later i = get_or_read later i seen short es 0 in
    subst (λ k. AreLater ld q bs k (slice_set later place value)) (sym et)
    (later_step ld q bs next later place value d nexts above within
    (made ∙ (rw (em, read, ei) refl)))
