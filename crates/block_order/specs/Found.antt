-- The fault of one block in what its jump or call finds (50, 51 or 53), and the first such fault of
-- a program. For src/finding.rt, which looks for them.
use Rattle.std.specs.Prelude.{◌≡◌, ℕ, ◌≤◌, List, Option, Some, None, Err, slice_get}
use Rattle.nc_number.specs.declared.cause.Cause.{Cause}
use Rattle.nc_number.specs.declared.cause.Cause.TheVariants.{NoProgram}
use Rattle.block_order.specs.declared.control.Control.{Control}
use Rattle.block_order.specs.declared.control.Control.TheVariants.{Call}
use Rattle.block_order.specs.declared.fault.OrderFault.{OrderFault}
use Rattle.block_order.specs.declared.program.ControlBlock.{ControlBlock}
use Rattle.block_order.specs.declared.program.ControlProgram.{ControlProgram}
use Rattle.block_order.specs.Order.{program_of, target_of}
use Rattle.block_order.specs.Faults.{fixed_number}

-- A jump from the block at a place to the number n fails for this cause.
abbrev pub JumpFault : List ControlBlock → ℕ → ℕ → Cause → Type 0
JumpFault bs place n cause = target_of bs place n ≡ Err cause

-- A block of this control at a place of the program has this fault.
pub data BlockFault (tape : List ControlProgram) (program : ControlProgram) (place : ℕ) (control : Control) : Cause → Type 0 where
  -- Its jump fails.
  jumps : (n : ℕ) (cause : Cause) → fixed_number tape program.number control ≡ Some n
      → JumpFault program.blocks place n cause → BlockFault tape program place control cause
  -- It calls a program that the tape lacks.
  calls : (called repeats : ℕ) → control ≡ Call called repeats → program_of tape called ≡ None
      → BlockFault tape program place control NoProgram

-- The answer is a cause that is a fault, or none if no cause is one.
abbrev pub IsFaultOf : (Cause → Type 0) → Option Cause → Type 0
IsFaultOf Fault None = (cause : Cause) → Fault cause → ⊥
IsFaultOf Fault (Some cause) = Fault cause

-- The fault is that of the program's first block that has one; there is none if no block has one.
abbrev pub IsProgramFault : List ControlProgram → ControlProgram → Option OrderFault → Type 0
IsProgramFault tape program None =
    (place : ℕ) (block : ControlBlock) (cause : Cause) → slice_get program.blocks place ≡ Some block
    → BlockFault tape program place block.control cause → ⊥
IsProgramFault tape program (Some fault) =
    (first : ℕ) × (block : ControlBlock) × (slice_get program.blocks first ≡ Some block) × (block.line ≡ fault.line)
    × BlockFault tape program first block.control fault.cause
    × ((place : ℕ) (other : ControlBlock) (cause : Cause) → slice_get program.blocks place ≡ Some other
    → BlockFault tape program place other.control cause → first ≤ place)
