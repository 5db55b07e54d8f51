-- The first fault of one stage of the check of a tape's order. src/fitting.rt and src/finding.rt
-- answer it.
use Rattle.std.specs.Prelude.{◌≡◌, ℕ, ◌≤◌, List, Option, Some, None, slice_get}
use Rattle.nc_number.specs.declared.cause.Cause.{Cause}
use Rattle.block_order.specs.declared.fault.OrderFault.{OrderFault}
use Rattle.block_order.specs.declared.program.ControlBlock.{ControlBlock}
use Rattle.block_order.specs.declared.program.ControlProgram.{ControlProgram}
use Rattle.block_order.specs.Faults.{Stage, HasFault, IsClear, IsNoLater}
use Rattle.block_order.specs.Loops.{IsMismatch}

-- The fault is that of the stage with the least line, and on that line with the least number; there
-- is none if the stage is clear.
abbrev pub IsFirstOf : List ControlProgram → Stage → Option OrderFault → Type 0
IsFirstOf tape stage None = IsClear tape stage
IsFirstOf tape stage (Some fault) =
    HasFault tape stage fault.line fault.cause
    × ((line : ℕ) (cause : Cause) → HasFault tape stage line cause → IsNoLater fault.line fault.cause line cause)

-- The line of the first mismatch of a program, if it has one.
abbrev pub IsMismatchLine : List ControlBlock → Option ℕ → Type 0
IsMismatchLine bs None = (place : ℕ) → IsMismatch bs place → ⊥
IsMismatchLine bs (Some line) =
    (first : ℕ) × (block : ControlBlock) × (slice_get bs first ≡ Some block) × (block.line ≡ line) × IsMismatch bs first
    × ((place : ℕ) → IsMismatch bs place → first ≤ place)
