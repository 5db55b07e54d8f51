-- For the proof of `trace_with` (src/running.rt): the trace of the run of the pair with its races
-- is written, with the status of how it ended; or memory ran out.
use Rattle.lathe_calls.specs.Traced.{unran}
use Rattle.lathe_calls.proofs.Ended.{ends_put, ends_untold}
use Rattle.lathe_calls.proofs.TurnsTold.{ran_so}
use Rattle.lathe_calls.proofs.running.trace_with.Goals as goal

pub returns-in-Ok : goal.returns-in-Ok
returns-in-Ok g c =
    let run = c.in-Ok.run' in
    rw (c.status_behind.ensures, c.reason_status.ensures)
    (ends_put _ c.write_traced-put.result
    (ran_so c.args.limit c.args.pair.now run.entries.items run.end c.args.races.now c.in-Ok.ensures.turns c.in-Ok.ensures.end c.requires)
    c.write_traced-put.ensures)

pub returns-in-Err : goal.returns-in-Err
returns-in-Err g c = ends_untold _ unran
