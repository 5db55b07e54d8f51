-- The last lines of a report: how many records there are, and how the run ended. A report and a
-- trace end with both lines; Summary and State take the line of the records, and a trace tells an
-- alarm by `cause_text`.
use Rattle.std.specs.Prelude.{ℕ, ◌==◌, if◌then◌else◌, List, [], ◌++◌, codes, decimal}
use Rattle.nc_number.specs.declared.cause.Cause.TheVariants.{MacroAlarm}
use Rattle.nc_number.specs.declared.path.Path.{Path}
use Rattle.nc_number.specs.Causes.{cause_number, cause_of}
use Rattle.nc_number.specs.Printed.{value_text}
use Rattle.nc_moves.specs.declared.alarm.Alarm.{Alarm}
use Rattle.nc_outside.specs.declared.reason.Reason.{Reason}
use Rattle.text_pieces.specs.Pieces.{name_text, path_name}

-- what the program gave a macro alarm (#3000=): a blank and its value; of other alarms nothing
unfoldable pub given_text : Alarm → List ℕ
given_text alarm = if alarm.cause == cause_number MacroAlarm then codes " " ++ value_text alarm.value else []

-- the number of an alarm, its name if the table of causes has one, and of a macro alarm what it was
-- given
unfoldable pub cause_text : Alarm → List ℕ
cause_text alarm = decimal alarm.cause ++ name_text (cause_of alarm.cause) ++ given_text alarm

-- an alarm: its path and line, and its cause
unfoldable pub alarm_text : Alarm → List ℕ
alarm_text alarm =
    codes "alarm " ++ path_name alarm.path ++ codes " line " ++ decimal alarm.line ++ codes " cause " ++ cause_text alarm

-- the turret of this path failed
unfoldable pub turret_text : Path → List ℕ
turret_text path = codes "turret fault " ++ path_name path

-- why a run ended
unfoldable pub reason_text : Reason → List ℕ
reason_text Reason.Done = codes "done"
reason_text (Reason.Alarm alarm) = alarm_text alarm
reason_text Reason.Stopped = codes "stopped"
reason_text Reason.Full = codes "full"
reason_text Reason.DiskFault = codes "disk fault"
reason_text (Reason.TurretFault path) = turret_text path

-- how many records there are
unfoldable pub records_text : ℕ → List ℕ
records_text count = codes "records " ++ decimal count ++ codes "\n"

-- both last lines
unfoldable pub end_text : ℕ → Reason → List ℕ
end_text count reason = records_text count ++ codes "end " ++ reason_text reason ++ codes "\n"
