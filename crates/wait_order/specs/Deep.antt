-- The ninth call of a chain of calls of loud programs, and its line: the fault 66. A loud program
-- has a wait or an end, or calls one that has. For this crate alone: src/deep.rt answers these
-- lines.
use Rattle.std.specs.Prelude.{◌≡◌, ℕ, ◌<◌, Bool, true, List, Some, slice_get}
use Rattle.block_order.specs.declared.program.ControlBlock.{ControlBlock}
use Rattle.block_order.specs.declared.program.ControlProgram.{ControlProgram}
use Rattle.block_order.specs.Order.{blocks, main_number}
use Rattle.block_order.specs.Faults.{IsReachedBy}
use Rattle.wait_order.specs.Depth.{IsLoudCall}
use Rattle.block_order.specs.ProgramPlaces.{is_flagged}

-- One of these blocks calls a loud program, and this is its line.
abbrev pub IsCallLine : List ControlProgram → List ControlBlock → ℕ → Type 0
IsCallLine tape bs line =
    (place : ℕ) × (block : ControlBlock) × (called : ℕ) × (slice_get bs place ≡ Some block) × IsLoudCall tape block.control called
    × (block.line ≡ line)

-- This is the line of a call of a loud program in a program that is flagged as reached.
abbrev pub IsReachedLine : List ControlProgram → List Bool → ControlProgram → ℕ → Type 0
IsReachedLine tape reached program line = (is_flagged tape reached program.number ≡ true) × IsCallLine tape program.blocks line

-- This is the line of a call of a loud program in one of the first n programs of the tape that is
-- flagged as reached.
abbrev pub IsDeepBelow : List ControlProgram → List Bool → ℕ → ℕ → Type 0
IsDeepBelow tape reached n line =
    (place : ℕ) × (program : ControlProgram) × (place < n) × (slice_get tape place ≡ Some program)
    × IsReachedLine tape reached program line

-- This is the line of a call of a loud program in a program that eight such calls reach from the
-- main one: the ninth call of the chain.
abbrev pub IsDeepLine : List ControlProgram → ℕ → Type 0
IsDeepLine tape line = (program : ℕ) × IsReachedBy tape 8 (main_number tape) program × IsCallLine tape (blocks tape program) line
