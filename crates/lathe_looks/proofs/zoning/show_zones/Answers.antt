-- For the proof of `show_zones` (src/zoning.rt): what is due to a run that was found is told, or why
-- there is none.
use Rattle.std.proofs.Common.{sym, subst}
use Rattle.lathe_looks.specs.Shown.{IsShown, shown, unshown}
use Rattle.lathe_looks.specs.Zoned.{IsPlanned}
use Rattle.lathe_calls.proofs.Ended.{ends_by, ends_just}
use Rattle.lathe_looks.proofs.zoning.show_zones.Goals as goal

pub returns-in-Ok : goal.returns-in-Ok
returns-in-Ok g c =
    let state = g.D.Disk.state in
    let found = c.in-Ok.found in
    ends_by _
    (λ answer is. subst (λ disk. IsShown (IsPlanned c.args.plan.now) (state c.args.disk) (state disk) answer) (sym c.into_disk.ensures)
    (shown (record { header = found.header; entries = found.entries.items }) found.verified c.in-Ok.ensures.run.accepted
    c.in-Ok.ensures.run.behind.history c.in-Ok.ensures.recovers is))
    (rw (c.reason_of-reason.ensures, c.in-Ok.ensures.run.behind.folds) at c.tell_plan-status.ensures)

pub returns-in-Err : goal.returns-in-Err
returns-in-Err g c = ends_just _ _ (unshown c.in-Err.fault c.in-Err.ensures.recovers) c.tell_unfound.ensures
