-- The labels of single programs, of the main one and of loud ones (which have a wait or an end, or
-- call one that has), as they are made and joined. For this crate alone: src/piece.rt and
-- src/listing.rt keep these.
use Rattle.std.specs.Prelude.{◌≡◌, ℕ, zero, suc, ◌+◌, ◌<◌, ◌≤◌, List, [], ◌++◌, length, Option, Some, None}
use Rattle.nc_number.specs.declared.limits.TheConstants.{MOST_LABELS}
use Rattle.block_order.specs.declared.control.Control.{Control}
use Rattle.block_order.specs.declared.program.ControlBlock.{ControlBlock}
use Rattle.block_order.specs.declared.program.ControlProgram.{ControlProgram}
use Rattle.block_order.specs.Order.{blocks, control_at, program_of}
use Rattle.block_order.specs.Loud.{loud}
use Rattle.loud_calls.specs.declared.known.KnownPrograms.{KnownPrograms}
use Rattle.loud_calls.specs.Calls.{IsCallOf, IsShort, IsShortCall}
use Rattle.loud_calls.specs.Known.{piece_known}
use Rattle.label_list.specs.declared.fault.PairFault.{PairFault}
use Rattle.label_list.specs.declared.labelled.Labelled.{Labelled}
use Rattle.label_list.specs.declared.piece.Ending.{Ending}
use Rattle.label_list.specs.declared.piece.Ending.TheVariants.{Stops, Returns}
use Rattle.label_list.specs.declared.piece.Piece.{Piece}
use Rattle.label_list.specs.Faults.{too_many}
use Rattle.label_list.specs.Lists.{block_labels, blocks_labels, off_line, labels_of_program}

-- These labels n times, one after another.
abbrev pub repeated_labels : ℕ → List Labelled → List Labelled
repeated_labels zero xs = []
repeated_labels (suc n) xs = xs ++ repeated_labels n xs

-- The labels that so many runs of a program give. If it stops, its first run is its last.
abbrev pub copies : Ending → ℕ → List Labelled → List Labelled
copies Stops n xs = xs
copies (Returns line) n xs = repeated_labels n xs

-- How the calling program ends at the call of a program that ends so, if it ends there.
abbrev pub stop_of : Ending → Option Ending
stop_of Stops = Some Stops
stop_of (Returns line) = None

-- The new labels are the old ones and these behind them, and there are not too many.
pub record IsAppended (old new more : List Labelled) : Type 0 where
  -- The new labels are the old ones and these behind them.
  pub are : new ≡ old ++ more
  -- They are at most 65,536.
  pub few : length new ≤ MOST_LABELS

-- It is the fault 70: with these labels behind the old ones there are too many.
pub record IsTooLong (old more : List Labelled) (fault : PairFault) : Type 0 where
  -- The fault is 70.
  pub is : fault ≡ too_many
  -- Together the labels are more than 65,536.
  pub long : MOST_LABELS < length old + length more

-- What comes behind the labels of a program by how it ends there: `behind` if it goes on, nothing
-- if it stops, `back` if it returns.
abbrev pub labels_to_come : Option Ending → (ℕ → List Labelled) → List Labelled → List Labelled
labels_to_come None back behind = behind
labels_to_come (Some Stops) back behind = []
labels_to_come (Some (Returns line)) back behind = back line

-- These are the labels of the program, of which there are not too many, and it ends so.
pub record IsPiece (tape : List ControlProgram) (program : ℕ) (labels : List Labelled) (ending : Ending) : Type 0 where
  -- The labels are at most 65,536.
  pub few : length labels ≤ MOST_LABELS
  -- They, and what comes by how the program ends, are the program's labels, for each number n of
  -- calls that may follow, if no chain of n calls of loud programs begins in the program.
  pub are : (n : ℕ) (back : ℕ → List Labelled) → IsShort tape n program
      → labels_of_program tape n program back ≡ labels ++ labels_to_come (Some ending) back []

-- Whatever follows its M99, the program has too many labels.
abbrev pub IsLong : List ControlProgram → ℕ → Type 0
IsLong tape program = (n : ℕ) (back : ℕ → List Labelled) → IsShort tape n program → MOST_LABELS < length (labels_of_program tape n program back)

-- It is the fault 70: the program has too many labels.
pub record FailsLong (tape : List ControlProgram) (program : ℕ) (fault : PairFault) : Type 0 where
  -- The fault is 70.
  pub is : fault ≡ too_many
  -- The program has too many labels.
  pub long : IsLong tape program

-- What is kept of each program is its labels and how it ends.
abbrev pub AreKnown : List ControlProgram → KnownPrograms Piece → Type 0
AreKnown tape known =
    (program : ℕ) (piece : Piece) → piece_known known program ≡ Some piece → IsPiece tape program piece.labels.items piece.ending

-- The labels from a block of this line and control on, with fewer than n calls to follow, one in
-- another.
abbrev pub from_block : List ControlProgram → ℕ → (ℕ → List Labelled) → ℕ → Control → List Labelled → List Labelled
from_block tape n back line control behind =
    block_labels (loud tape) (λ q rest. labels_of_program tape n q (λ at_line. rest)) back line control behind

-- The new labels are the old ones with what a block of this control gives; the program ends there
-- as told, or goes on.
pub record IsTaken (tape : List ControlProgram) (line : ℕ) (control : Control) (old new : List Labelled) (ending : Option Ending) : Type 0 where
  -- The new labels are at most 65,536.
  pub few : length new ≤ MOST_LABELS
  -- The old ones with what the block gives, and what is behind it, are the new ones with what comes
  -- by how the program ends there.
  pub are : (n : ℕ) (back : ℕ → List Labelled) (behind : List Labelled) → IsShortCall tape n control
      → old ++ from_block tape n back line control behind ≡ new ++ labels_to_come ending back behind

-- It is the fault 70: with what the block gives there are too many labels, whatever follows.
pub record FailsAt (tape : List ControlProgram) (line : ℕ) (control : Control) (old : List Labelled) (fault : PairFault) : Type 0 where
  -- The fault is 70.
  pub is : fault ≡ too_many
  -- The old labels with what the block gives are more than 65,536.
  pub long : (n : ℕ) (back : ℕ → List Labelled) (behind : List Labelled) → IsShortCall tape n control
      → MOST_LABELS < length (old ++ from_block tape n back line control behind)

-- It is the fault 70: a program that the block calls has too many labels.
pub record FailsInCall (tape : List ControlProgram) (control : Control) (fault : PairFault) : Type 0 where
  -- The fault is 70.
  pub is : fault ≡ too_many
  -- The program that is called.
  pub program : ℕ
  -- The block calls it, and it is loud.
  pub call : IsCallOf tape control program
  -- It has too many labels.
  pub long : IsLong tape program

-- The labels so far and those of the blocks that are left are the labels of the program.
pub record IsSoFar (tape : List ControlProgram) (program : ℕ) (labels : List Labelled) (rest : List ControlBlock) : Type 0 where
  -- The labels so far are at most 65,536.
  pub few : length labels ≤ MOST_LABELS
  -- Each block that is left is one of the program's.
  pub calls : (place : ℕ) (c : Control) → control_at rest place ≡ Some c
      → (own : ℕ) × (control_at (blocks tape program) own ≡ Some c)
  -- Both together are its labels, for each number of calls that is enough for what follows in it.
  pub are : (n : ℕ) (back : ℕ → List Labelled) → IsShort tape (suc n) program
      → labels_of_program tape (suc n) program back
      ≡ labels ++ blocks_labels (loud tape) (λ q behind. labels_of_program tape n q (λ line. behind)) back (off_line (program_of tape program)) rest

-- It is the fault 70: the list of a path is too long.
pub record IsListTooLong (labels : List Labelled) (fault : PairFault) : Type 0 where
  -- The fault is 70.
  pub is : fault ≡ too_many
  -- The labels are more than 65,536.
  pub long : MOST_LABELS < length labels
