-- Lines aside, the labels of a path are those ahead of its start: by induction over blocks and
-- calls. For the law `labels_are_those_of_the_blocks` (src/laws.rt), and for Paired.
use Rattle.std.proofs.Common.{◌≡◌, ℕ, zero, suc, Bool, true, false, List, [], ◌∷◌, ◌++◌, refl, ap, ◌∙◌}
use Rattle.block_order.specs.declared.control.Control.{Control}
use Rattle.block_order.specs.declared.control.Control.TheVariants.{Next, Goto, While, Do, EndLoop, Wait, End, Call, Back, BackTo}
use Rattle.block_order.specs.declared.label.Label.{Label}
use Rattle.block_order.specs.declared.label.Label.TheVariants as label
use Rattle.block_order.specs.declared.label.Mark.{Mark}
use Rattle.block_order.specs.declared.program.ControlBlock.{ControlBlock}
use Rattle.block_order.specs.declared.program.ControlProgram.{ControlProgram}
use Rattle.block_order.specs.Order.{blocks, main_number, program_of}
use Rattle.block_order.specs.Loud.{loud, mark_of, marks}
use Rattle.block_order.specs.Labels as plain
use Rattle.block_order.specs.Labels.{labels, list}
use Rattle.label_list.specs.declared.labelled.Labelled.{Labelled}
use Rattle.label_list.specs.Lists.{bare_labels, times, block_labels, blocks_labels, off_line, labels_of_program, path_labels, label_with_line}

-- A program that is called many times gives, lines aside, the labels that block_order defines.
times_bare : (n : ℕ) (f : List Labelled → List Labelled) (g : List Label → List Label) (behind : List Labelled)
    → ((k : List Labelled) → bare_labels (f k) ≡ g (bare_labels k)) → bare_labels (times n f behind) ≡ plain.times n g (bare_labels behind)
times_bare zero f g behind same = refl
times_bare (suc n) f g behind same = same (times n f behind) ∙ ap g (times_bare n f g behind same)

-- A block gives, lines aside, the labels that block_order defines.
block_bare : (ld : ℕ → Bool) (f : ℕ → List Labelled → List Labelled) (g : ℕ → List Label → List Label) (back : ℕ → List Labelled)
    (rest : List Label) (line : ℕ) (c : Control) (behind : List Labelled) (ms : List Mark)
    → ((q : ℕ) (k : List Labelled) → bare_labels (f q k) ≡ g q (bare_labels k)) → ((at_line : ℕ) → bare_labels (back at_line) ≡ rest)
    → bare_labels behind ≡ labels g ms rest → bare_labels (block_labels ld f back line c behind) ≡ labels g (mark_of ld c ++ ms) rest
block_bare ld f g back rest line Next behind ms same ends more = more
block_bare ld f g back rest line (Goto n) behind ms same ends more = more
block_bare ld f g back rest line (While m) behind ms same ends more = more
block_bare ld f g back rest line (Do m) behind ms same ends more = more
block_bare ld f g back rest line (EndLoop m) behind ms same ends more = more
block_bare ld f g back rest line (Wait code) behind ms same ends more = ap (λ ls. label.Wait code ∷ ls) more
block_bare ld f g back rest line End behind ms same ends more = refl
block_bare ld f g back rest line Back behind ms same ends more = ends line
block_bare ld f g back rest line (BackTo n) behind ms same ends more = more
block_bare ld f g back rest line (Call q r) behind ms same ends more = go (ld q) refl
  where
    go : (b : Bool) → ld q ≡ b → bare_labels (block_labels ld f back line (Call q r) behind) ≡ labels g (mark_of ld (Call q r) ++ ms) rest
    go false e = rw e more
    go true e = rw e (times_bare r (f q) (g q) behind (same q) ∙ ap (λ ls. plain.times r (g q) ls) more)

-- The blocks of a program give, lines aside, the labels that block_order defines.
blocks_bare : (ld : ℕ → Bool) (f : ℕ → List Labelled → List Labelled) (g : ℕ → List Label → List Label) (back : ℕ → List Labelled)
    (rest : List Label) (off : ℕ) (bs : List ControlBlock)
    → ((q : ℕ) (k : List Labelled) → bare_labels (f q k) ≡ g q (bare_labels k)) → ((at_line : ℕ) → bare_labels (back at_line) ≡ rest)
    → bare_labels (blocks_labels ld f back off bs) ≡ labels g (marks ld bs) rest
blocks_bare ld f g back rest off [] same ends = refl
blocks_bare ld f g back rest off (b ∷ bs) same ends =
    block_bare ld f g back rest b.line b.control (blocks_labels ld f back off bs) (marks ld bs) same ends
    (blocks_bare ld f g back rest off bs same ends)

-- A program with all that it calls gives, lines aside, the labels that block_order defines.
whole_bare : (tape : List ControlProgram) (n program : ℕ) (back : ℕ → List Labelled) (rest : List Label)
    → ((line : ℕ) → bare_labels (back line) ≡ rest) → bare_labels (labels_of_program tape n program back) ≡ plain.labels_of_call tape n program rest
unfolding labels_of_program plain.labels_of_call
whole_bare tape zero program back rest ends = ends 0
whole_bare tape (suc n) program back rest ends =
    blocks_bare (loud tape) (λ q behind. labels_of_program tape n q (λ line. behind)) (λ q k. plain.labels_of_call tape n q k) back rest
    (off_line (program_of tape program)) (blocks tape program) (λ q k. whole_bare tape n q (λ line. k) (bare_labels k) (λ line. refl)) ends

-- The list of a tape is that of its main program, in which at most eight calls follow one in
-- another.
list_whole : (tape : List ControlProgram) → plain.labels_of_call tape 9 (main_number tape) (label.Again ∷ []) ≡ list tape
unfolding plain.labels_of_call
list_whole tape = refl

-- The labels of a path are, lines aside, the list of its tape.
pub bare_path : (tape : List ControlProgram) → bare_labels (path_labels tape) ≡ list tape
unfolding path_labels
bare_path tape =
    whole_bare tape 9 (main_number tape) (λ line. label_with_line label.Again line ∷ []) (label.Again ∷ []) (λ line. refl) ∙ list_whole tape
