-- Which tapes have an order of waits, and the one refusal of every other tape: what `open_order`
-- (src/ordering.rt) promises.
use Rattle.std.specs.Prelude.{◌≡◌, ℕ, List, Option, Ok, Err, Some, None}
use Rattle.nc_text.specs.declared.tape.Program.{Program}
use Rattle.block_order.specs.declared.program.ControlProgram.{ControlProgram}
use Rattle.block_order.specs.Faults.{IsSound}
use Rattle.tape_flow.specs.declared.fault.FlowFault.{FlowFault}
use Rattle.tape_flow.specs.Exact.{IsOrderFault}
use Rattle.open_order.specs.declared.premises.Premises.{Premises}
use Rattle.open_order.specs.Reading.{programs_read}
use Rattle.open_order.specs.Contours.{or_later, contour_fault}
use Rattle.open_order.specs.Doubles.{double_fault}

-- the refusal of a tape at this line by this number
abbrev pub refusal : ℕ → ℕ → FlowFault
refusal line number = record { number = number; line = line }

-- the first fault that is looked for in a sound order: of a jump to a number that stands twice, else of a
-- contour
abbrev pub late_fault : List ControlProgram → List Program → Option FlowFault
late_fault order tape = or_later (double_fault order) (contour_fault order tape)

-- the tape has this order, read by these premises
pub record IsOrdered (premises : Premises) (tape : List Program) (order : List ControlProgram) : Type 0 where
  -- no block is refused, and this is what the blocks do to the order
  pub reads : programs_read premises tape ≡ Ok order
  -- nothing is wrong with jumps, loops, calls and waits
  pub sound : IsSound order
  -- no jump strays to another block of its number, and no contour of a cycle has a fault
  pub late : late_fault order tape ≡ None

-- The refusal of a tape: of its first block that is refused; if all blocks read, the first fault of
-- their order; if that is sound, the first fault of a jump to a number that stands twice, else of a
-- contour.
pub data IsRefused (premises : Premises) (tape : List Program) (line number : ℕ) : Type 0 where
  -- a block is refused, and this is the first that is
  block : programs_read premises tape ≡ Err (refusal line number) → IsRefused premises tape line number
  -- no block is refused, and this is the first fault of the order
  order : (order : List ControlProgram) → programs_read premises tape ≡ Ok order → IsOrderFault order line number
      → IsRefused premises tape line number
  -- the order is sound, and this is the first fault of such a jump, else of a contour
  late : (order : List ControlProgram) → programs_read premises tape ≡ Ok order → IsSound order
      → late_fault order tape ≡ Some (refusal line number) → IsRefused premises tape line number
