-- Why a block has no move: an alarm, by its cause.
use Rattle.nc_number.specs.declared.cause.Cause.{Cause}
use Rattle.nc_number.specs.Causes.{cause_number}
use Rattle.motion_track.specs.declared.fault.MotionFault.{MotionFault}

-- the alarm of this cause
abbrev pub fault : Cause → MotionFault
fault cause = record { number = cause_number cause }
