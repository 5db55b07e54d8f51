-- The labels of a path with their lines, in the order in which the path comes to them: the
-- definition that src/listing.rt answers. A loud program has a wait or an end, or calls one that
-- has; a call of any other gives no label.
use Rattle.std.specs.Prelude.{◌≡◌, ℕ, zero, suc, ◌≤◌, Bool, List, [], ◌∷◌, length, map, Option, Some, None, if◌then◌else◌}
use Rattle.nc_number.specs.declared.limits.TheConstants.{MOST_LABELS}
use Rattle.block_order.specs.declared.control.Control.{Control}
use Rattle.block_order.specs.declared.control.Control.TheVariants.{Wait, End, Call, Back}
use Rattle.block_order.specs.declared.label.Label.{Label}
use Rattle.block_order.specs.declared.label.Label.TheVariants as label
use Rattle.block_order.specs.declared.program.ControlBlock.{ControlBlock}
use Rattle.block_order.specs.declared.program.ControlProgram.{ControlProgram}
use Rattle.block_order.specs.Order.{blocks, main_number, program_of}
use Rattle.block_order.specs.Loud.{loud}
use Rattle.tape_flow.specs.Places.{last_line}
use Rattle.label_list.specs.declared.labelled.Labelled.{Labelled}

-- The label with the line of its block.
abbrev pub label_with_line : Label → ℕ → Labelled
label_with_line label line = record { label = label; line = line }

-- The labels that f puts before others, put n times before `behind`.
abbrev pub times : ℕ → (List Labelled → List Labelled) → List Labelled → List Labelled
times zero f behind = behind
times (suc n) f behind = f (times n f behind)

-- The labels from a block of this line and control on. A loud program that it calls gives its
-- labels, as often as it is to run, before those behind the call. `back` is what follows an M99
-- that stands on a line; behind an end nothing follows.
abbrev pub block_labels : (ℕ → Bool) → (ℕ → List Labelled → List Labelled) → (ℕ → List Labelled) → ℕ → Control → List Labelled → List Labelled
block_labels loud called back line (Wait code) behind = label_with_line (label.Wait code) line ∷ behind
block_labels loud called back line End behind = label_with_line label.End line ∷ []
block_labels loud called back line (Call program repeats) behind =
    if loud program then times repeats (called program) behind else behind
block_labels loud called back line Back behind = back line
block_labels loud called back line other behind = behind

-- The labels from these blocks on, of which the last one is the program's last; `off` is the line
-- of the place past it.
abbrev pub blocks_labels : (ℕ → Bool) → (ℕ → List Labelled → List Labelled) → (ℕ → List Labelled) → ℕ → List ControlBlock → List Labelled
blocks_labels loud called back off [] = label_with_line label.Off off ∷ []
blocks_labels loud called back off (b ∷ bs) =
    block_labels loud called back b.line b.control (blocks_labels loud called back off bs)

-- The line of the place past a program's last block.
abbrev pub off_line : Option ControlProgram → ℕ
off_line None = 0
off_line (Some program) = last_line program

-- The labels of a program that is run with fewer than n calls of loud programs to follow in it, one
-- in another; `back` is what follows an M99 of it, by the line of that M99.
unfoldable pub labels_of_program : List ControlProgram → ℕ → ℕ → (ℕ → List Labelled) → List Labelled
labels_of_program tape zero program back = back 0
labels_of_program tape (suc n) program back =
    blocks_labels (loud tape) (λ q behind. labels_of_program tape n q (λ line. behind)) back (off_line (program_of tape program)) (blocks tape program)

-- The labels of a path, with their lines: those of its main program, whose M99 begins it anew. At
-- most eight calls may be open (MOST_CALLS of block_order), so fewer than 9 follow one in another.
unfoldable pub path_labels : List ControlProgram → List Labelled
path_labels tape = labels_of_program tape 9 (main_number tape) (λ line. label_with_line label.Again line ∷ [])

-- The labels, lines aside.
abbrev pub bare_labels : List Labelled → List Label
bare_labels xs = map (λ (x : Labelled). x.label) xs

-- What must be so of the labels behind this one: behind a wait the list goes on, behind each other
-- label it is over.
abbrev pub ended_by : Label → List Labelled → Type 0 → Type 0
ended_by (label.Wait code) xs rest = rest
ended_by label.End xs rest = xs ≡ []
ended_by label.Again xs rest = xs ≡ []
ended_by label.Off xs rest = xs ≡ []

-- The last label, and no other, is `End`, `Again` or `Off`.
abbrev pub IsEnded : List Labelled → Type 0
IsEnded [] = ⊥
IsEnded (x ∷ xs) = ended_by x.label xs (IsEnded xs)

-- What the type LabelList keeps: the list ends as a path ends, and is no longer than 65,536 labels.
pub record IsListed (xs : List Labelled) : Type 0 where
  -- Its last label, and no other, ends a path.
  pub ended : IsEnded xs
  -- It has at most 65,536 labels.
  pub few : length xs ≤ MOST_LABELS
