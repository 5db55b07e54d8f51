-- For the proof of `end_of_run` (src/rest.rt): the cause that is told is the first that holds, and if
-- none is, no turret failed.
use Rattle.std.proofs.Common.{◌≡◌, subst, sym, None}
use Rattle.std.specs.Prelude.{IfNone, IfSome}
use Rattle.turret_run.specs.Rests.{HasCause}
use Rattle.turret_run.proofs.TurretsRun.{has_cause, none_left}
use Rattle.turret_run.proofs.rest.end_of_run.Goals as goal

pub returns-clause-ends : goal.returns-clause-ends
returns-clause-ends g c =
    let held = c.end.new.self in
    subst (λ o. IfSome o (λ e. HasCause held c.args.failed e)) (sym c.of_causes.ensures)
    (has_cause held c.end.result c.args.failed c.end.ensures.ends c.end.ensures.goes_on)

pub returns-clause-goes_on : goal.returns-clause-goes_on
returns-clause-goes_on g c = subst (λ o. IfNone o (c.args.failed ≡ None)) (sym c.of_causes.ensures) (none_left c.end.result c.args.failed)
