-- The labels of a tape, and which tapes have one list of them, whatever the variables hold. A
-- program is loud if it has a wait or an end, or calls one that has; the others are quiet. A mark
-- is a block at which a program's labels change, a stretch the run of blocks up to and with a mark.
use Rattle.std.specs.Prelude.{◌≡◌, ℕ, zero, suc, ◌-◌, Bool, true, false, ◌⊎◌, List, [], ◌∷◌, length, drop, Some, if◌then◌else◌}
use Rattle.block_order.specs.declared.control.Control.{Control}
use Rattle.block_order.specs.declared.control.Control.TheVariants.{Goto, Call, BackTo}
use Rattle.block_order.specs.declared.frame.Frame.{Frame}
use Rattle.block_order.specs.declared.label.Label.{Label}
use Rattle.block_order.specs.declared.label.Label.TheVariants.{Wait, End, Again, Off}
use Rattle.block_order.specs.declared.label.Mark.{Mark}
use Rattle.block_order.specs.declared.label.Mark.TheVariants as mark
use Rattle.block_order.specs.declared.program.ControlProgram.{ControlProgram}
use Rattle.block_order.specs.Order.{blocks, main_number, control_at, IsLoop, Leads, MayBe}
use Rattle.block_order.specs.Loud.{loud, marks, stretch}

-- The labels that f puts before others, put n times before `rest`.
abbrev pub times : ℕ → (List Label → List Label) → List Label → List Label
times zero f rest = rest
times (suc n) f rest = f (times n f rest)

-- The labels of these marks, up to the first that ends the path or returns. `called` gives the
-- labels of a called program, and `rest` follows after a return. Marks without an end or a return
-- lead past the program's last block: `Off`.
abbrev pub labels : (ℕ → List Label → List Label) → List Mark → List Label → List Label
labels called [] rest = Off ∷ []
labels called (mark.Wait code ∷ ms) rest = Wait code ∷ labels called ms rest
labels called (mark.End ∷ ms) rest = End ∷ []
labels called (mark.Call program repeats ∷ ms) rest = times repeats (called program) (labels called ms rest)
labels called (mark.Back ∷ ms) rest = rest
labels called (mark.Past ∷ ms) rest = Off ∷ []

-- The labels of a program that is called while n calls may still be opened, its own one of them,
-- and then `rest` if it returns; `rest` alone if none may be opened.
unfoldable pub labels_of_call : List ControlProgram → ℕ → ℕ → List Label → List Label
labels_of_call tape zero program rest = rest
labels_of_call tape (suc n) program rest =
    labels (λ q k. labels_of_call tape n q k) (marks (loud tape) (blocks tape program)) rest

-- The labels of a frame, if its program returns each time: of its program from this block on, then
-- of the `left` repeats still to come, then `rest`. Its program may open n further calls.
abbrev pub frame_labels : List ControlProgram → ℕ → ℕ → ℕ → ℕ → List Label → List Label
frame_labels tape n program block left rest =
    labels (λ q k. labels_of_call tape n q k) (marks (loud tape) (drop block (blocks tape program)))
    (times left (λ k. labels_of_call tape (suc n) program k) rest)

-- How many calls a program may still open that has these callers; eight may be open.
abbrev pub room : List Frame → ℕ
room stack = 8 - length stack

-- The labels that come once the running program has returned to these frames, its caller first.
-- Behind the main program there is `Again`.
abbrev pub labels_behind : List ControlProgram → List Frame → List Label
labels_behind tape [] = Again ∷ []
labels_behind tape (f ∷ stack) =
    frame_labels tape (room stack) f.program (suc f.block) f.left (labels_behind tape stack)

-- Whether the labels of a running program with these callers come: of the main program, which has
-- no callers, and of each loud program they do.
abbrev pub counts : List ControlProgram → ℕ → List Frame → Bool
counts tape program [] = true
counts tape program (g ∷ stack) = loud tape program

-- The labels ahead of a place, which is a list of frames, the running one first. A quiet program
-- that was called has none of its own; the main program has, even if it is quiet.
abbrev pub labels_ahead : List ControlProgram → List Frame → List Label
labels_ahead tape [] = []
labels_ahead tape (f ∷ stack) =
    if counts tape f.program stack
    then frame_labels tape (room stack) f.program f.block f.left (labels_behind tape stack)
    else labels_ahead tape stack

-- The place where a path begins: the first block of the main program.
abbrev pub start : List ControlProgram → List Frame
start tape = record { program = main_number tape; block = 0; left = 0 } ∷ []

-- The list of labels of a path: those ahead of its start.
abbrev pub list : List ControlProgram → List Label
list tape = labels_ahead tape (start tape)

-- A block of this control, at this place of the program, may jump to the target: a GOTO, an M99 P
-- of the main program, or the call of a quiet program that returns by an M99 P.
abbrev pub IsTarget : List ControlProgram → ℕ → ℕ → Control → ℕ → Type 0
IsTarget tape program block (Goto n) target =
    (number : ℕ) × MayBe n number × Leads (blocks tape program) block number target
IsTarget tape program block (BackTo n) target =
    (program ≡ main_number tape) × Leads (blocks tape program) block n target
IsTarget tape program block (Call called repeats) target =
    (loud tape called ≡ false) × (inner n : ℕ) × (control_at (blocks tape called) inner ≡ Some (BackTo n))
    × Leads (blocks tape program) block n target
IsTarget tape program block other target = ⊥

-- A chain of n calls of loud programs: the first call stands in this program, each other one in the
-- program that the call before it calls.
abbrev pub Chain : List ControlProgram → ℕ → ℕ → Type 0
Chain tape zero program = Unit {0}
Chain tape (suc n) program =
    (block called repeats : ℕ) × (control_at (blocks tape program) block ≡ Some (Call called repeats))
    × (loud tape called ≡ true) × Chain tape n called

-- The program is the main one or loud: only then do labels hang on the order of its blocks.
abbrev pub Counts : List ControlProgram → ℕ → Type 0
Counts tape program = (program ≡ main_number tape) ⊎ (loud tape program ≡ true)

-- In the main program and in loud ones no jump, no end of a loop and no return leads from one
-- stretch to another.
pub record IsStraight (tape : List ControlProgram) : Type 0 where
  -- A jump stays in its stretch.
  pub jumps : (program block target : ℕ) (c : Control) → Counts tape program
      → control_at (blocks tape program) block ≡ Some c → IsTarget tape program block c target
      → stretch (loud tape) (blocks tape program) block ≡ stretch (loud tape) (blocks tape program) target
  -- A loop ends in the stretch in which it begins.
  pub loops : (program head close : ℕ) → Counts tape program → IsLoop (blocks tape program) head close
      → stretch (loud tape) (blocks tape program) head ≡ stretch (loud tape) (blocks tape program) close
  -- A loud program with a return to a sequence number (M99 P) is the main program.
  pub backs : (program block n : ℕ) → loud tape program ≡ true
      → control_at (blocks tape program) block ≡ Some (BackTo n) → program ≡ main_number tape

-- The tape is straight, and no chain of nine calls of loud programs begins in its main program.
-- Then all its runs come to one list of labels, whatever the variables hold: the law
-- `each_step_keeps_the_labels`.
pub record IsUnforked (tape : List ControlProgram) : Type 0 where
  -- Nothing leads from one stretch to another.
  pub straight : IsStraight tape
  pub open straight use *
  -- No chain of nine calls of loud programs begins in the main program.
  pub chains : Chain tape 9 (main_number tape) → ⊥
