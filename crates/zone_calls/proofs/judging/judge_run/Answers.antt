-- For the proof of `judge_run` (src/judging.rt): what is asked for of the run is due; or memory ran
-- out.
use Rattle.std.proofs.Common.{subst}
use Rattle.lathe_calls.proofs.Ended.{ends_by, ends_untold}
use Rattle.zone_calls.specs.Due.{ran, unran}
use Rattle.zone_calls.specs.Zoned.{IsZonedOf}
use Rattle.zone_calls.proofs.judging.judge_run.Goals as goal

pub returns-in-Ok : goal.returns-in-Ok
returns-in-Ok g c =
    let run = c.in-Ok.run' in
    ends_by _
    (λ answer is. ran run.entries.items c.in-Ok.ensures.turns
    (subst (λ end. IsZonedOf c.args.plan.now c.args.pair.now run.entries.items end answer) c.in-Ok.ensures.end is))
    c.tell_plan.ensures

pub returns-in-Err : goal.returns-in-Err
returns-in-Err g c = ends_untold _ unran
