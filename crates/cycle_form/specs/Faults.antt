-- The refusals of roughing cycles: their causes and lines, as src/fault.rt has them.
use Rattle.std.specs.Prelude.{ℕ}
use Rattle.nc_number.specs.declared.cause.Cause.{Cause}
use Rattle.nc_number.specs.declared.cause.Cause.TheVariants as cause
use Rattle.cycle_form.specs.declared.fault.CycleFault.{CycleFault}
use Rattle.cycle_form.specs.declared.fault.CycleFault.TheVariants.{BadCycle, TooLarge}

-- The refusal that a fault is.
abbrev pub fault_cause : CycleFault → Cause
fault_cause (BadCycle line) = cause.BadCycle
fault_cause (TooLarge line) = cause.TooLarge

-- The line of the text that the refusal is about, from 1.
abbrev pub fault_line : CycleFault → ℕ
fault_line (BadCycle line) = line
fault_line (TooLarge line) = line
