-- What is shown of a run that was found is said of its history, by its machine.
-- For the proof of `put` (src/showing.rt).
use Rattle.std.proofs.Common.{◌≡◌, List, ap, ◌∙◌}
use Rattle.nc_outside.specs.declared.reason.Reason.{Reason}
use Rattle.move_list.specs.State.{state_text}
use Rattle.nc_restart.specs.Pair.{tapes_in, machine_behind}
use Rattle.nc_verify.specs.declared.verified.Verified.{Verified}
use Rattle.run_records.specs.Entries.{Entry}
use Rattle.two_path.specs.Machine.{MachineView}
use Rattle.lathe_calls.specs.Reported.{report_of, state_of}
use Rattle.lathe_looks.specs.Standing.{reason_of, moves_text}

-- The report with the machine's reason is the report of the history.
pub moves_are : (pair : Verified) (entries : List Entry) (machine : MachineView) (reason : Reason) → machine ≡ machine_behind pair entries
    → reason ≡ reason_of machine → report_of pair entries reason ≡ moves_text pair entries
moves_are pair entries machine reason folds same = ap (report_of pair entries) (same ∙ ap reason_of folds)

-- The state of the machine is that of the history.
pub state_is : (pair : Verified) (entries : List Entry) (machine : MachineView) → machine ≡ machine_behind pair entries
    → state_text (tapes_in pair) machine ≡ state_of pair entries
state_is pair entries machine folds = ap (state_text (tapes_in pair)) folds
