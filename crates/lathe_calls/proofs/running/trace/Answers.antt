-- For the proof of `trace` (src/running.rt): the trace that is due to the texts is written, or
-- their refusal.
use Rattle.lathe_calls.specs.Traced.{traced}
use Rattle.lathe_calls.proofs.Ended.{ends_by}
use Rattle.lathe_calls.proofs.TurnsTold.{traced_refused}
use Rattle.lathe_calls.proofs.running.trace.Goals as goal

pub returns-in-Ok : goal.returns-in-Ok
returns-in-Ok g c = ends_by _ (λ answer is. traced c.in-Ok.pair c.in-Ok.ensures.accepted is) c.trace_pair.ensures

pub returns-in-Err : goal.returns-in-Err
returns-in-Err g c = ends_by _ (traced_refused _ _ c.in-Err.ensures.refused) c.refuse.ensures
