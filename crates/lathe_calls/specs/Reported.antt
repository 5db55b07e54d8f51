-- The texts of a history of a pair: its report, and the state of the machine after it. Due cites
-- it.
use Rattle.std.specs.Prelude.{ℕ, List}
use Rattle.nc_outside.specs.declared.reason.Reason.{Reason}
use Rattle.move_list.specs.Report.{report_text}
use Rattle.move_list.specs.State.{state_text}
use Rattle.nc_verify.specs.declared.verified.Verified.{Verified}
use Rattle.run_records.specs.Entries.{Entry}
use Rattle.nc_restart.specs.Pair.{tapes_in, opening_of, machine_behind}

-- the report of a history of a pair
abbrev pub report_of : Verified → List Entry → Reason → List ℕ
report_of pair entries reason = report_text (tapes_in pair) (opening_of pair) entries reason

-- the state of the machine after a history
abbrev pub state_of : Verified → List Entry → List ℕ
state_of pair entries = state_text (tapes_in pair) (machine_behind pair entries)
