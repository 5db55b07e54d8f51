-- For the proof of `judge_texts` (src/judging.rt): what is due to the pair of the texts is written,
-- or their refusal.
use Rattle.lathe_calls.proofs.Ended.{ends_by}
use Rattle.lathe_calls.specs.Due.{accepted}
use Rattle.lathe_calls.proofs.PairTold.{refused_texts}
use Rattle.zone_calls.proofs.judging.judge_texts.Goals as goal

pub returns-in-Ok : goal.returns-in-Ok
returns-in-Ok g c = ends_by _ (λ answer is. accepted c.in-Ok.pair c.in-Ok.ensures.accepted is) c.judge_run.ensures

pub returns-in-Err : goal.returns-in-Err
returns-in-Err g c = ends_by _ (refused_texts _ c.in-Err.ensures.refused) c.refuse.ensures
