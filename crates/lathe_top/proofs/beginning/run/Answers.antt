-- For the proof of `run` (src/beginning.rt): the pair of the files is run with a new journal;
-- or it is told which file can't be read, and nothing is run.
use Rattle.lathe_calls.proofs.Ended.{ends_by, ends_just}
use Rattle.lathe_looks.proofs.NotHad.{answered, unfetched_due}
use Rattle.lathe_top.proofs.Opened.{none_called}
use Rattle.lathe_top.proofs.beginning.run.Goals as goal

pub returns-in-Ok : goal.returns-in-Ok
returns-in-Ok g c = ends_by _ (λ answer ran. answered _ answer c.in-Ok.ensures.texts ran) c.run_texts.ensures

pub returns-in-Err : goal.returns-in-Err
returns-in-Err g c =
    let disks = g.met.D.Disk g.world.𝓛 g.world.𝓜 g.world.𝓡 ((λ s x. x), (λ x. x), (λ x. x), λ x. x) in
    rw c.at_rest.ensures
    (ends_just _ _ (unfetched_due _ _ _ c.in-Err.error c.in-Err.ensures.not_had (none_called _ _ (disks.coherent c.args.lathe.disk)))
    c.tell_unfetched-status.ensures)
