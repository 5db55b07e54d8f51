-- For the proof of `judge_waits` (src/waiting.rt): the meetings that are due to the texts are
-- written, or their refusal.
use Rattle.lathe_calls.proofs.Ended.{ends_by}
use Rattle.lathe_calls.proofs.WaitsTold.{waits_told, waits_refused}
use Rattle.lathe_calls.proofs.waiting.judge_waits.Goals as goal

pub returns-in-Ok : goal.returns-in-Ok
returns-in-Ok g c = ends_by _ (waits_told c.args.outside c.in-Ok.ensures.told.1) c.tell_waits.ensures

pub returns-in-Err : goal.returns-in-Err
returns-in-Err g c = ends_by _ (waits_refused c.args.outside _ c.in-Err.ensures.refused) c.refuse.ensures
