-- What holds of the fault of a call that may also run out of memory.
use Rattle.nc_number.specs.declared.fault.Failing.{Failing}
use Rattle.nc_number.specs.declared.fault.Failing.TheVariants.{Fault, NoMemory}

-- If the call failed by a fault of its own, `Holds` is so of that fault. If memory ran out, nothing
-- is said.
abbrev pub IfFault : {E : Type 0} → Failing E → (E → Type 0) → Type 0
IfFault (Fault fault) Holds = Holds fault
IfFault NoMemory Holds = Unit {0}
