-- The refusal of a block is one of the tape, and if all blocks read, so is the first fault of their
-- order. For `open_order` (src/ordering.rt).
use Rattle.std.proofs.Common.{◌≡◌, List, Ok}
use Rattle.nc_number.specs.declared.fault.Failing.{Failing}
use Rattle.nc_number.specs.declared.fault.Failing.TheVariants.{Fault, NoMemory}
use Rattle.nc_number.specs.Answers.{Fails}
use Rattle.nc_text.specs.declared.tape.Program.{Program}
use Rattle.block_order.specs.declared.program.ControlProgram.{ControlProgram}
use Rattle.block_order.specs.Answers.{IfFault}
use Rattle.tape_flow.specs.declared.fault.FlowFault.{FlowFault}
use Rattle.tape_flow.specs.Exact.{IsOrderFault}
use Rattle.open_order.specs.declared.premises.Premises.{Premises}
use Rattle.open_order.specs.Reading.{programs_read}
use Rattle.open_order.specs.Exact.{IsRefused, block as by_block, order as by_order}

-- a tape with a block that does not read is refused for that block
pub refused_by_reading : (premises : Premises) (tape : List Program) (error : Failing FlowFault)
    → Fails error (programs_read premises tape) → IfFault error (λ fault. IsRefused premises tape fault.line fault.number)
refused_by_reading premises tape (Fault fault) failed = by_block failed
refused_by_reading premises tape NoMemory failed = tt

-- a tape whose blocks read, and whose order has a fault, is refused for that fault
pub refused_by_order : (premises : Premises) (tape : List Program) (order : List ControlProgram) (error : Failing FlowFault)
    → programs_read premises tape ≡ Ok order → IfFault error (λ fault. IsOrderFault order fault.line fault.number)
    → IfFault error (λ fault. IsRefused premises tape fault.line fault.number)
refused_by_order premises tape order (Fault fault) read first = by_order order read first
refused_by_order premises tape order NoMemory read first = tt
