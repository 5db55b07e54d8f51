-- The one alarm of this crate, 40, by its cause: a tool offset that does not exist.
use Rattle.nc_number.specs.declared.cause.Cause.{Cause}
use Rattle.nc_number.specs.Causes.{cause_number}
use Rattle.modal_state.specs.declared.fault.ModalFault.{ModalFault}

-- the alarm of a cause
abbrev pub fault : Cause → ModalFault
fault cause = record { number = cause_number cause }
