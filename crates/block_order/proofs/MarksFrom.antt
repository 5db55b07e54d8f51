-- The marks of a program before and behind one of its blocks. A mark is a block at which a
-- program's labels change: a wait, an end, an M99 without a number or a call that leads to a wait
-- or an end. For LabelsAhead.
use Rattle.std.proofs.Common.{◌≡◌, ℕ, zero, suc, Bool, List, [], ◌∷◌, ◌++◌, take, drop, Some, refl, ap, sym, ◌∙◌, append_assoc}
use Rattle.std.proofs.lemmas.List.{take-append-drop}
use Rattle.std.proofs.Math.Seq.{drop-append_seam}
use Rattle.block_order.specs.declared.control.Control.{Control}
use Rattle.block_order.specs.declared.program.ControlBlock.{ControlBlock}
use Rattle.block_order.specs.Order.{control_at}
use Rattle.block_order.specs.Loud.{mark_of, marks, stretch}

-- The marks of two lists of blocks are those of one and those of the other.
marks-append : (loud : ℕ → Bool) (xs ys : List ControlBlock)
    → marks loud (xs ++ ys) ≡ marks loud xs ++ marks loud ys
marks-append loud [] ys = refl
marks-append loud (x ∷ xs) ys =
    rw (marks-append loud xs ys) (sym (append_assoc (mark_of loud x.control) (marks loud xs) (marks loud ys)))

-- The marks from a block on are those of the program without the first ones, as many as the number
-- of the block's stretch, which counts the marks before it.
pub marks-drop : (loud : ℕ → Bool) (bs : List ControlBlock) (i : ℕ)
    → marks loud (drop i bs) ≡ drop (stretch loud bs i) (marks loud bs)
marks-drop loud bs i =
    let whole : marks loud (take i bs) ++ marks loud (drop i bs) ≡ marks loud bs =
    sym (marks-append loud (take i bs) (drop i bs)) ∙ ap (marks loud) (take-append-drop i bs) in
    sym (drop-append_seam (marks loud (take i bs)) (marks loud (drop i bs))) ∙ ap (drop (stretch loud bs i)) whole

-- Blocks of one stretch have the same marks from them on.
pub same_stretch : (loud : ℕ → Bool) (bs : List ControlBlock) (i j : ℕ) → stretch loud bs i ≡ stretch loud bs j
    → marks loud (drop i bs) ≡ marks loud (drop j bs)
same_stretch loud bs i j e = marks-drop loud bs i ∙ (ap (λ n. drop n (marks loud bs)) e ∙ sym (marks-drop loud bs j))

-- The marks from a block on are its own and those behind it.
pub marks-at : (loud : ℕ → Bool) (bs : List ControlBlock) (i : ℕ) (c : Control) → control_at bs i ≡ Some c
    → marks loud (drop i bs) ≡ mark_of loud c ++ marks loud (drop (suc i) bs)
marks-at loud [] i c e = absurd cc
marks-at loud (b ∷ bs) zero c e = let same : b.control ≡ c = cc in ap (λ x. mark_of loud x ++ marks loud bs) same
marks-at loud (b ∷ bs) (suc i) c e = marks-at loud bs i c e
