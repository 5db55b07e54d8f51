-- For the proof of `report_pair` (src/running.rt): the report of the run of the pair is written,
-- with the status of how it ended; or memory ran out.
use Rattle.lathe_calls.proofs.Ended.{ends_put, ends_untold}
use Rattle.lathe_calls.specs.Due.{unran}
use Rattle.lathe_calls.proofs.PairTold.{reported}
use Rattle.lathe_calls.proofs.running.report_pair.Goals as goal

pub returns-in-Ok : goal.returns-in-Ok
returns-in-Ok g c =
    let run = c.in-Ok.run' in
    rw (c.status_behind.ensures, c.reason_status.ensures)
    (ends_put _ c.write_report-put.result (reported c.args.limit c.args.pair.now run.entries.items run.end c.in-Ok.ensures.turns c.in-Ok.ensures.end)
    c.write_report-put.ensures)

pub returns-in-Err : goal.returns-in-Err
returns-in-Err g c = ends_untold _ unran
