-- The labels of a program do not depend on how many calls may follow, as long as there are enough.
-- A loud program has a wait or an end, or calls one that has. For the law
-- `labels_hang_on_no_number_of_calls` (src/laws.rt).
use Rattle.std.proofs.Common.{◌≡◌, ℕ, zero, suc, ◌≤◌, Bool, true, false, List, [], ◌∷◌, Some, refl, ap, ◌∙◌, arith}
use Rattle.block_order.specs.declared.control.Control.{Control}
use Rattle.block_order.specs.declared.control.Control.TheVariants.{Next, Goto, While, Do, EndLoop, Wait, End, Call, Back, BackTo}
use Rattle.block_order.specs.declared.label.Label.TheVariants as label
use Rattle.block_order.specs.declared.program.ControlBlock.{ControlBlock}
use Rattle.block_order.specs.declared.program.ControlProgram.{ControlProgram}
use Rattle.block_order.specs.Order.{blocks, program_of, control_at}
use Rattle.block_order.specs.Loud.{loud}
use Rattle.label_list.specs.declared.labelled.Labelled.{Labelled}
use Rattle.label_list.specs.Lists.{label_with_line, times, block_labels, blocks_labels, off_line, labels_of_program}
use Rattle.loud_calls.specs.Calls.{IsShort}

-- Two meanings of a program that agree give the same labels, however often it is called.
times_same : (n : ℕ) (f g : List Labelled → List Labelled) (behind : List Labelled) → ((k : List Labelled) → f k ≡ g k)
    → times n f behind ≡ times n g behind
times_same zero f g behind same = refl
times_same (suc n) f g behind same = ap f (times_same n f g behind same) ∙ same (times n g behind)

-- Two meanings of calls agree on the loud programs that these blocks call.
abbrev pub AgreeOn : (ℕ → Bool) → List ControlBlock → (ℕ → List Labelled → List Labelled) → (ℕ → List Labelled → List Labelled) → Type 0
AgreeOn ld bs f g = (i q r : ℕ) → control_at bs i ≡ Some (Call q r) → ld q ≡ true → (k : List Labelled) → f q k ≡ g q k

-- Two meanings of calls that agree on the program that a block calls give the same labels at the
-- block.
block_same : (ld : ℕ → Bool) (f g : ℕ → List Labelled → List Labelled) (back : ℕ → List Labelled) (line : ℕ) (c : Control)
    (one two : List Labelled) → ((q r : ℕ) → c ≡ Call q r → ld q ≡ true → (k : List Labelled) → f q k ≡ g q k) → one ≡ two
    → block_labels ld f back line c one ≡ block_labels ld g back line c two
block_same ld f g back line Next one two here more = more
block_same ld f g back line (Goto n) one two here more = more
block_same ld f g back line (While m) one two here more = more
block_same ld f g back line (Do m) one two here more = more
block_same ld f g back line (EndLoop m) one two here more = more
block_same ld f g back line (Wait code) one two here more = ap (λ ls. label_with_line (label.Wait code) line ∷ ls) more
block_same ld f g back line End one two here more = refl
block_same ld f g back line Back one two here more = refl
block_same ld f g back line (BackTo n) one two here more = more
block_same ld f g back line (Call q r) one two here more = go (ld q) refl
  where
    go : (b : Bool) → ld q ≡ b → block_labels ld f back line (Call q r) one ≡ block_labels ld g back line (Call q r) two
    go false e = rw e more
    go true e = rw e (ap (λ ls. times r (f q) ls) more ∙ times_same r (f q) (g q) two (here q r refl e))

-- Two meanings of calls that agree on what these blocks call give the same labels.
blocks_same : (ld : ℕ → Bool) (f g : ℕ → List Labelled → List Labelled) (back : ℕ → List Labelled) (off : ℕ) (bs : List ControlBlock)
    → AgreeOn ld bs f g → blocks_labels ld f back off bs ≡ blocks_labels ld g back off bs
blocks_same ld f g back off [] same = refl
blocks_same ld f g back off (b ∷ bs) same =
    block_same ld f g back b.line b.control (blocks_labels ld f back off bs) (blocks_labels ld g back off bs)
    (λ q r is. same 0 q r (ap (λ c. Some c) is)) (blocks_same ld f g back off bs (λ i. same (suc i)))

-- If no chain of n calls of loud programs begins in a program, it gives the same labels with n
-- calls to follow and with more.
pub enough : (tape : List ControlProgram) (n m program : ℕ) (back : ℕ → List Labelled) → IsShort tape n program → n ≤ m
    → labels_of_program tape n program back ≡ labels_of_program tape m program back
unfolding labels_of_program
enough tape zero m program back short le = absurd (short tt)
enough tape (suc n) zero program back short le = absurd (omega arith)
enough tape (suc n) (suc m) program back short le =
    blocks_same (loud tape) (λ q behind. labels_of_program tape n q (λ line. behind)) (λ q behind. labels_of_program tape m q (λ line. behind)) back
    (off_line (program_of tape program)) (blocks tape program)
    (λ i q r is noisy k. enough tape n m q (λ line. k) (λ chain. short (i, q, r, is, noisy, chain)) (omega arith))
