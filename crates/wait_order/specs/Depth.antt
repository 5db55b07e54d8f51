-- Which programs chains of calls reach, of the loud ones: those that have a wait or an end, or call
-- one that has. A program's flag is its entry in a list that has one for each program of the tape.
-- For this crate alone: src/depth.rt sets these flags.
use Rattle.std.specs.Prelude.{◌≡◌, ◌↔◌, ℕ, ◌<◌, Bool, true, List, length, Some, slice_get}
use Rattle.block_order.specs.declared.control.Control.{Control}
use Rattle.block_order.specs.declared.control.Control.TheVariants.{Call}
use Rattle.block_order.specs.declared.program.ControlBlock.{ControlBlock}
use Rattle.block_order.specs.declared.program.ControlProgram.{ControlProgram}
use Rattle.block_order.specs.Order.{blocks, main_number, control_at}
use Rattle.block_order.specs.Loud.{loud}
use Rattle.block_order.specs.Faults.{IsReachedBy}
use Rattle.block_order.specs.ProgramPlaces.{is_flagged}

-- The control is a call of the program, which is loud.
abbrev pub IsLoudCall : List ControlProgram → Control → ℕ → Type 0
IsLoudCall tape control program = (repeats : ℕ) × (control ≡ Call program repeats) × (loud tape program ≡ true)

-- One of the first n blocks calls the program, which is loud.
abbrev pub HasLoudCallBelow : List ControlProgram → List ControlBlock → ℕ → ℕ → Type 0
HasLoudCallBelow tape bs n program =
    (place repeats : ℕ) × (place < n) × (control_at bs place ≡ Some (Call program repeats)) × (loud tape program ≡ true)

-- One of these blocks calls the program, which is loud.
abbrev pub HasLoudCall : List ControlProgram → List ControlBlock → ℕ → Type 0
HasLoudCall tape bs program = HasLoudCallBelow tape bs (length bs) program

-- `next` flags exactly the loud programs that a program flagged in `reached` calls.
pub record IsCalledFrom (tape : List ControlProgram) (reached next : List Bool) : Type 0 where
  -- There is a flag for each program.
  pub count : length next ≡ length tape
  -- A program is flagged exactly if a program flagged in `reached` calls it, and it is loud.
  pub each : (program : ℕ) → (is_flagged tape next program ≡ true)
      ↔ ((caller : ℕ) × (is_flagged tape reached caller ≡ true) × HasLoudCall tape (blocks tape caller) program)

-- The flags are those of the programs that n calls of loud programs reach from the main one.
pub record AreReached (tape : List ControlProgram) (n : ℕ) (flags : List Bool) : Type 0 where
  -- There is a flag for each program.
  pub count : length flags ≡ length tape
  -- A program is flagged exactly if n calls of loud programs lead to it from the main one.
  pub each : (program : ℕ) → (is_flagged tape flags program ≡ true) ↔ IsReachedBy tape n (main_number tape) program

-- One of the first n programs is flagged as reached and calls the program, which is loud.
abbrev pub IsCalledBelow : List ControlProgram → List Bool → ℕ → ℕ → Type 0
IsCalledBelow tape reached n program =
    (place : ℕ) × (caller : ControlProgram) × (place < n) × (slice_get tape place ≡ Some caller)
    × (is_flagged tape reached caller.number ≡ true) × HasLoudCall tape caller.blocks program
