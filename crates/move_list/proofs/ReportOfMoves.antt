-- A report by the moves of both paths: what the code puts is the report of the history.
-- The proof of `put_report` (src/report.rt) uses it.
use Rattle.std.proofs.Common.{◌≡◌, List, ◌++◌, length, Result, subst}
use Rattle.nc_number.specs.declared.path.Path.TheVariants.{One, Two}
use Rattle.nc_outside.specs.declared.sink.PutFault.{PutFault}
use Rattle.nc_outside.specs.Written.{SinkState}
use Rattle.nc_verify.specs.Printed.{IsPut}
use Rattle.run_records.specs.Entries.{Entry}
use Rattle.two_path.specs.Machine.{MachineView}
use Rattle.two_path.specs.Turns.{Tapes}
use Rattle.nc_outside.specs.declared.lined_move.LinedMove.{LinedMove}
use Rattle.nc_outside.specs.declared.reason.Reason.{Reason}
use Rattle.move_list.specs.EndText.{end_text}
use Rattle.two_path.specs.Made.{moves_of}
use Rattle.move_list.specs.Report.{path_text, report_text}

-- if the text of these moves of both paths and of the end is put, the report of the history is put
pub report_put : (tapes : Tapes) (start : MachineView) (entries : List Entry) (reason : Reason) (one two : List LinedMove) (a b : SinkState)
    (result : Result (Unit {0}) PutFault) → one ≡ moves_of tapes start One entries → two ≡ moves_of tapes start Two entries
    → IsPut a b (path_text One one ++ (path_text Two two ++ end_text (length entries) reason)) result
    → IsPut a b (report_text tapes start entries reason) result
unfolding report_text
report_put tapes start entries reason one two a b result is_one is_two put =
    subst (λ t. IsPut a b (path_text One (moves_of tapes start One entries) ++ (path_text Two t ++ end_text (length entries) reason)) result) is_two
    (subst (λ o. IsPut a b (path_text One o ++ (path_text Two two ++ end_text (length entries) reason)) result) is_one put)
