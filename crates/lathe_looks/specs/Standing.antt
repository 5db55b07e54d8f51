-- Why the machine of a run stands where it does, and the report of its history so far. Shown cites
-- it; which end a machine has by itself is `end_by` of nc_outside (specs/Reasons).
use Rattle.std.specs.Prelude.{ℕ, Bool, ◌&&◌, ◌||◌, is_some, List, Option, unwrap_or}
use Rattle.nc_moves.specs.declared.alarm.Alarm.{Alarm}
use Rattle.nc_outside.specs.declared.reason.Reason.{Reason}
use Rattle.nc_outside.specs.Reasons.{end_by}
use Rattle.nc_verify.specs.declared.verified.Verified.{Verified}
use Rattle.run_records.specs.Entries.{Entry}
use Rattle.two_path.specs.Machine.{MachineView}
use Rattle.nc_restart.specs.Pair.{machine_behind}
use Rattle.lathe_calls.specs.Reported.{report_of}

-- Why a machine stands there, if nothing else stopped it: an alarm, or both paths have ended, or it
-- was only stopped.
abbrev pub reason_by : Option Alarm → Bool → Reason
reason_by alarm finished = unwrap_or (end_by alarm finished) Reason.Stopped

-- Both paths have ended.
abbrev pub are_finished : MachineView → Bool
are_finished m = m.paths.one.finished && m.paths.two.finished

-- Why a machine stands where it does, by its alarm and by whether both paths have ended.
abbrev pub reason_of : MachineView → Reason
reason_of m = reason_by m.alarm (are_finished m)

-- The run is over: there is an alarm, or both paths have ended.
abbrev pub is_over : MachineView → Bool
is_over m = is_some m.alarm || are_finished m

-- The report of a history so far, with why its machine stands where it does.
abbrev pub moves_text : Verified → List Entry → List ℕ
moves_text pair entries = report_of pair entries (reason_of (machine_behind pair entries))
