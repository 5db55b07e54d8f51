-- The least lines of the parts of a path, as its blocks come one after another with the calls of
-- loud programs unfolded. A loud program has a wait or an end, or calls one that has; of the
-- others, the quiet ones, the least line comes in at the call. `line` gives, by O number and place,
-- the line of a block that is looked for; `quiet` gives, by O number, the least line of a quiet
-- program and of the quiet ones that it calls, directly or through others. For this crate alone:
-- the contracts of src/listing.rt and src/quiet.rt are said in these words; that the lines are
-- those of the parts is proved in proofs/PartsLeast.antt.
use Rattle.std.specs.Prelude.{◌≡◌, ℕ, zero, suc, Bool, false, List, [], ◌∷◌, Option, Some, None, if◌then◌else◌}
use Rattle.block_order.specs.declared.control.Control.{Control}
use Rattle.block_order.specs.declared.control.Control.TheVariants.{Wait, End, Call, Back}
use Rattle.block_order.specs.declared.program.ControlBlock.{ControlBlock}
use Rattle.block_order.specs.declared.program.ControlProgram.{ControlProgram}
use Rattle.block_order.specs.Order.{blocks, main_number, control_at}
use Rattle.block_order.specs.Loud.{loud}
use Rattle.nc_number.specs.Options.{lesser}

-- The least line of each part, from the one in which they begin; none for a part without a line.
abbrev pub Lines : Type 0
Lines = List (Option ℕ)

-- These lines, with one line more in the part in which they begin; none if there is no part.
abbrev pub with_first : Option ℕ → Lines → Lines
with_first line [] = []
with_first line (own ∷ lines) = lesser line own ∷ lines

-- The lines that f puts before others, put n times before `behind`.
abbrev pub times : ℕ → (Lines → Lines) → Lines → Lines
times zero f behind = behind
times (suc n) f behind = f (times n f behind)

-- The line of the quiet program that a block of this control calls, if it calls a quiet program
-- with a line.
abbrev pub called_line : (ℕ → Bool) → (ℕ → Option ℕ) → Control → Option ℕ
called_line loud quiet (Call program repeats) = if loud program then None else quiet program
called_line loud quiet other = None

-- The line that is seen at a block of this control: its own, or that of the quiet program that it
-- calls if that is less.
abbrev pub seen_line : (ℕ → Bool) → (ℕ → Option ℕ) → Option ℕ → Control → Option ℕ
seen_line loud quiet own control = lesser own (called_line loud quiet control)

-- The lines that come behind a block of this control. Those of a loud program that it calls, as
-- often as it is to run, come before what is behind the call; a wait begins a part; `back` is what
-- follows an M99; behind an end nothing comes, and the part in which the end stands is the last.
abbrev pub block_lines : (ℕ → Bool) → (ℕ → Lines → Lines) → Lines → Control → Lines → Lines
block_lines loud called back (Wait code) behind = None ∷ behind
block_lines loud called back End behind = None ∷ []
block_lines loud called back (Call program repeats) behind = if loud program then times repeats (called program) behind else behind
block_lines loud called back Back behind = back
block_lines loud called back other behind = behind

-- The lines from these blocks on. The first of them has this place in its program, and the last one
-- is the program's last.
abbrev pub blocks_lines : (ℕ → Bool) → (ℕ → Option ℕ) → (ℕ → Lines → Lines) → (ℕ → Option ℕ) → Lines → ℕ → List ControlBlock → Lines
blocks_lines loud quiet called line back place [] = None ∷ []
blocks_lines loud quiet called line back place (b ∷ bs) =
    with_first (seen_line loud quiet (line place) b.control)
    (block_lines loud called back b.control (blocks_lines loud quiet called line back (suc place) bs))

-- The lines of a program that is run with fewer than n calls of loud programs to follow in it, one
-- in another; `back` is what follows its M99.
unfoldable pub lines_of_run : List ControlProgram → (ℕ → ℕ → Option ℕ) → (ℕ → Option ℕ) → ℕ → ℕ → Lines → Lines
lines_of_run tape line quiet zero program back = back
lines_of_run tape line quiet (suc n) program back =
    blocks_lines (loud tape) quiet (λ q behind. lines_of_run tape line quiet n q behind) (line program) back 0 (blocks tape program)

-- The lines of the path, without what comes once it begins anew. At most eight calls may be open
-- (MOST_CALLS of block_order), so fewer than 9 follow one in another.
abbrev pub path_lines : List ControlProgram → (ℕ → ℕ → Option ℕ) → (ℕ → Option ℕ) → Lines
path_lines tape line quiet = lines_of_run tape line quiet 9 (main_number tape) (None ∷ [])

-- Calls of quiet programs, one in another, lead from the first program to the other, which is
-- opened from there.
pub data IsOpened (tape : List ControlProgram) (from : ℕ) : ℕ → Type 0 where
  -- A program is opened from itself.
  itself : IsOpened tape from from
  -- A quiet program that an opened one calls is opened.
  calls : (caller there program repeats : ℕ) → IsOpened tape from caller
      → control_at (blocks tape caller) there ≡ Some (Call program repeats) → loud tape program ≡ false → IsOpened tape from program

-- k is the line of a block that is looked for, of the program or of a quiet one that is opened from
-- there.
abbrev pub LineFrom : List ControlProgram → (ℕ → ℕ → Option ℕ) → ℕ → ℕ → Type 0
LineFrom tape line from k =
    (program block : ℕ) × (c : Control) × IsOpened tape from program
    × (control_at (blocks tape program) block ≡ Some c) × (line program block ≡ Some k)
