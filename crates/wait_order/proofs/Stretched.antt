-- The list of the stretches of a program's blocks has the stretch of each; and stretches rise. A
-- stretch is the run of blocks up to a mark: a wait, an end, an M99 without a number, or a loud
-- call. A loud program comes to a wait or an end, itself or by its calls; the others are quiet. For
-- Elsewhere and Nearest.
use Rattle.std.proofs.Common.{◌≡◌, ℕ, zero, suc, ◌+◌, ◌<◌, ◌≤◌, Bool, List, [], ◌∷◌, length, take, slice_index_or, ◌∙◌, arith, length-append}
use Rattle.block_order.specs.declared.program.ControlBlock.{ControlBlock}
use Rattle.block_order.specs.Loud.{mark_of, marks, stretch}
use Rattle.wait_order.specs.Stretches.{stretches_from}

-- With a block in front, the marks before each block are those of the new one besides.
pub stretch_behind : (ld : ℕ → Bool) (b : ControlBlock) (bs : List ControlBlock) (i : ℕ)
    → stretch ld (b ∷ bs) (suc i) ≡ length (mark_of ld b.control) + stretch ld bs i
stretch_behind ld b bs i = length-append (mark_of ld b.control) (marks ld (take i bs))

-- The list has the stretch of each block, counted from m marks on.
pub stretches_are : (ld : ℕ → Bool) (bs : List ControlBlock) (m i d : ℕ) → i < length bs
    → slice_index_or (stretches_from ld m bs) i d ≡ m + stretch ld bs i
stretches_are ld [] m i d within = absurd (omega arith)
stretches_are ld (b ∷ bs) m zero d within = omega arith
stretches_are ld (b ∷ bs) m (suc i) d within =
    stretches_are ld bs (m + length (mark_of ld b.control)) i d (omega arith)
    ∙ omega (arith, stretch_behind ld b bs i)

-- A later block lies in no earlier stretch.
pub stretch_rises : (ld : ℕ → Bool) (bs : List ControlBlock) (i j : ℕ) → i ≤ j → stretch ld bs i ≤ stretch ld bs j
stretch_rises ld [] zero j le = omega arith
stretch_rises ld [] (suc i) zero le = absurd (omega arith)
stretch_rises ld [] (suc i) (suc j) le = omega arith
stretch_rises ld (b ∷ bs) zero j le = omega arith
stretch_rises ld (b ∷ bs) (suc i) zero le = absurd (omega arith)
stretch_rises ld (b ∷ bs) (suc i) (suc j) le =
    omega (arith, stretch_behind ld b bs i, stretch_behind ld b bs j, stretch_rises ld bs i j (omega arith))
