-- Why an offset was not set, by its cause: alarm 40, no such offset, or 41, past the range.
use Rattle.nc_number.specs.declared.cause.Cause.{Cause}
use Rattle.nc_number.specs.Causes.{cause_number}
use Rattle.offset_store.specs.declared.fault.OffsetFault.{OffsetFault}

-- the alarm of a cause
abbrev pub fault : Cause → OffsetFault
fault cause = record { number = cause_number cause }
