-- For the proof of `judge` (src/judging.rt): what is written is the verdict of the texts, whether
-- they are accepted or refused.
use Rattle.lathe_calls.proofs.Ended.{ends_by}
use Rattle.lathe_calls.proofs.VerdictTold.{judged_accepted, judged_refused}
use Rattle.lathe_calls.proofs.judging.judge.Goals as goal

pub returns-in-Ok : goal.returns-in-Ok
returns-in-Ok g c = ends_by _ (judged_accepted c.in-Ok.ensures.accepted) c.accept.ensures

pub returns-in-Err : goal.returns-in-Err
returns-in-Err g c = ends_by _ (judged_refused _ c.in-Err.ensures.refused) c.refuse.ensures
