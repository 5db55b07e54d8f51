-- The refusals of a tape that is to be written out, as src/fault.rt has them.
use Rattle.std.specs.Prelude.{ℕ}
use Rattle.nc_number.specs.Causes.{cause_number}
use Rattle.cycle_form.specs.Faults.{fault_cause, fault_line}
use Rattle.tape_expand.specs.declared.fault.ExpandFault.{ExpandFault}
use Rattle.tape_expand.specs.declared.fault.ExpandFault.TheVariants.{Unreadable, Cycle}

-- the number under which the refusal is printed
abbrev pub expand_number : ExpandFault → ℕ
expand_number (Unreadable fault) = fault.number
expand_number (Cycle fault) = cause_number (fault_cause fault)

-- the line that the refusal is about, from 1
abbrev pub expand_line : ExpandFault → ℕ
expand_line (Unreadable fault) = fault.line
expand_line (Cycle fault) = fault_line fault
