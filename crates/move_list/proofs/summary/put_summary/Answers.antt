-- For the proof of `put_summary` (src/summary.rt): the summary of the history, done again, is put,
-- or a prefix of it; or memory ran out.
use Rattle.nc_verify.proofs.InPieces.{none_put}
use Rattle.move_list.proofs.SummaryOfMoves.{summary_put}
use Rattle.move_list.proofs.summary.put_summary.Goals as goal

pub returns-in-Ok : goal.returns-in-Ok
returns-in-Ok g c =
    summary_put c.args.number c.args.left.now c.args.right.now c.args.settings.now c.args.entries.now.items _ _ _ _ _ _ _
    c.in-Ok.ensures.one c.in-Ok.ensures.two c.in-Ok.ensures.machine c.summary_lines.ensures c.put_piece.ensures

pub returns-in-Err : goal.returns-in-Err
returns-in-Err g c = none_put _ _
