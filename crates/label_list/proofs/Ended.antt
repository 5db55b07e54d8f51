-- A path's list of labels has one `End`, `Again` or `Off`, and that is the last label. For the
-- proofs of `labels` (src/listing.rt) and `labels_of_order` (src/ordered.rt).
use Rattle.std.proofs.Common.{◌≡◌, ℕ, zero, suc, Bool, true, false, List, [], ◌∷◌, refl}
use Rattle.block_order.specs.declared.control.Control.{Control}
use Rattle.block_order.specs.declared.control.Control.TheVariants.{Next, Goto, While, Do, EndLoop, Wait, End, Call, Back, BackTo}
use Rattle.block_order.specs.declared.label.Label.TheVariants as label
use Rattle.block_order.specs.declared.program.ControlBlock.{ControlBlock}
use Rattle.block_order.specs.declared.program.ControlProgram.{ControlProgram}
use Rattle.block_order.specs.Order.{blocks, main_number, program_of}
use Rattle.block_order.specs.Loud.{loud}
use Rattle.label_list.specs.declared.labelled.Labelled.{Labelled}
use Rattle.label_list.specs.Lists.{label_with_line, times, block_labels, blocks_labels, off_line, labels_of_program, path_labels, IsEnded}

-- If a program before labels that end a path still does so, it does when it is called many times.
times_ended : (n : ℕ) (f : List Labelled → List Labelled) (behind : List Labelled)
    → ((k : List Labelled) → IsEnded k → IsEnded (f k)) → IsEnded behind → IsEnded (times n f behind)
times_ended zero f behind keeps e = e
times_ended (suc n) f behind keeps e = keeps (times n f behind) (times_ended n f behind keeps e)

-- A block before labels that end a path gives labels that end it.
block_ended : (ld : ℕ → Bool) (f : ℕ → List Labelled → List Labelled) (back : ℕ → List Labelled) (line : ℕ) (c : Control)
    (behind : List Labelled) → ((q : ℕ) (k : List Labelled) → IsEnded k → IsEnded (f q k))
    → ((at_line : ℕ) → IsEnded (back at_line)) → IsEnded behind → IsEnded (block_labels ld f back line c behind)
block_ended ld f back line Next behind keeps ends e = e
block_ended ld f back line (Goto n) behind keeps ends e = e
block_ended ld f back line (While m) behind keeps ends e = e
block_ended ld f back line (Do m) behind keeps ends e = e
block_ended ld f back line (EndLoop m) behind keeps ends e = e
block_ended ld f back line (Wait code) behind keeps ends e = e
block_ended ld f back line End behind keeps ends e = refl
block_ended ld f back line Back behind keeps ends e = ends line
block_ended ld f back line (BackTo n) behind keeps ends e = e
block_ended ld f back line (Call q r) behind keeps ends e = go (ld q) refl
  where
    go : (b : Bool) → ld q ≡ b → IsEnded (block_labels ld f back line (Call q r) behind)
    go false is = rw is e
    go true is = rw is (times_ended r (f q) behind (keeps q) e)

-- The blocks of a program give labels that end a path, if what follows its M99 does.
blocks_ended : (ld : ℕ → Bool) (f : ℕ → List Labelled → List Labelled) (back : ℕ → List Labelled) (off : ℕ) (bs : List ControlBlock)
    → ((q : ℕ) (k : List Labelled) → IsEnded k → IsEnded (f q k)) → ((at_line : ℕ) → IsEnded (back at_line))
    → IsEnded (blocks_labels ld f back off bs)
blocks_ended ld f back off [] keeps ends = refl
blocks_ended ld f back off (b ∷ bs) keeps ends =
    block_ended ld f back b.line b.control (blocks_labels ld f back off bs) keeps ends (blocks_ended ld f back off bs keeps ends)

-- A program with all that it calls gives labels that end a path, if what follows its M99 does.
whole_ended : (tape : List ControlProgram) (n program : ℕ) (back : ℕ → List Labelled) → ((line : ℕ) → IsEnded (back line))
    → IsEnded (labels_of_program tape n program back)
unfolding labels_of_program
whole_ended tape zero program back ends = ends 0
whole_ended tape (suc n) program back ends =
    blocks_ended (loud tape) (λ q behind. labels_of_program tape n q (λ line. behind)) back (off_line (program_of tape program)) (blocks tape program)
    (λ q k e. whole_ended tape n q (λ line. k) (λ line. e)) ends

-- The list of a path has one label that ends it, and it is the last.
pub path_ended : (tape : List ControlProgram) → IsEnded (path_labels tape)
unfolding path_labels
path_ended tape = whole_ended tape 9 (main_number tape) (λ line. label_with_line label.Again line ∷ []) (λ line. refl)
