-- For the proof of `put_report` (src/report.rt): the moves of the history, done again, are put as
-- its report, or a prefix of it; or memory ran out.
use Rattle.two_path.specs.Turns.{tapes_of}
use Rattle.two_path.specs.Start.{machine_at_start}
use Rattle.nc_verify.proofs.InPieces.{none_put}
use Rattle.move_list.proofs.ReportOfMoves.{report_put}
use Rattle.move_list.proofs.report.put_report.Goals as goal

pub returns-in-Ok : goal.returns-in-Ok
returns-in-Ok g c =
    report_put (tapes_of c.args.left.now c.args.right.now) (machine_at_start c.args.left.now c.args.right.now c.args.settings.now)
    c.args.entries.now.items c.args.reason.now _ _ _ _ _ c.in-Ok.ensures.one c.in-Ok.ensures.two (rw (c.len.ensures) at c.put_made.ensures)

pub returns-in-Err : goal.returns-in-Err
returns-in-Err g c = none_put _ _
