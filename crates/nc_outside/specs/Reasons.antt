-- Why a run ended, and which of several causes is told.
use Rattle.std.specs.Prelude.{Bool, true, false, Option, Some, None}
use Rattle.nc_number.specs.declared.path.Path.{Path}
use Rattle.nc_moves.specs.declared.alarm.Alarm.{Alarm}
use Rattle.nc_outside.specs.declared.halt.Halt.{Halt}
use Rattle.nc_outside.specs.declared.halt.Halt.TheVariants as halt
use Rattle.nc_outside.specs.declared.reason.Reason.{Reason}
use Rattle.nc_outside.specs.declared.reason.Reason.TheVariants as reason

-- the reason of a run that this halt ended
abbrev pub reason_of : Halt → Reason
reason_of (halt.Alarm alarm) = reason.Alarm alarm
reason_of halt.Disk = reason.DiskFault
reason_of (halt.Turret path) = reason.TurretFault path
reason_of halt.Full = reason.Full
reason_of halt.Budget = reason.Stopped

-- why the machine ended a run: an alarm, or else the ends of both paths; none if it did not
abbrev pub end_by : Option Alarm → Bool → Option Reason
end_by (Some alarm) finished = Some (reason.Alarm alarm)
end_by None true = Some reason.Done
end_by None false = None

-- why a run ended: its machine ended it, or else a bound of its records; none if neither did
abbrev pub end_or_bound : Option Reason → Option Halt → Option Reason
end_or_bound (Some end) bound = Some end
end_or_bound None (Some bound) = Some (reason_of bound)
end_or_bound None None = None

-- Of several causes the first is told: the disk failed, or else the turret of this path did, or
-- else the run ended so.
abbrev pub first_cause : Option Reason → Option Path → Option Reason
first_cause (Some reason.DiskFault) turret = Some reason.DiskFault
first_cause end (Some path) = Some (reason.TurretFault path)
first_cause end None = end
