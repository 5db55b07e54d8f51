-- For the proof of `run_texts` (src/beginning.rt), if the texts are refused or memory ran out for
-- the verdict: the refusal is told, or nothing, and nothing is run.
use Rattle.lathe_calls.proofs.Ended.{ends_by}
use Rattle.lathe_top.proofs.Opened.{none_called}
use Rattle.lathe_top.proofs.RunsBegun.{run_refused}
use Rattle.lathe_top.proofs.beginning.run_texts.Goals as goal

pub returns-in-Err : goal.returns-in-Err
returns-in-Err g c =
    let disks = g.met.D.Disk g.world.𝓛 g.world.𝓜 g.world.𝓡 ((λ s x. x), (λ x. x), (λ x. x), λ x. x) in
    rw c.at_rest.ensures
    (rw (← c.as_slice.ensures.value, ← c.as_slice-2.ensures.value, ← c.as_slice-3.ensures.value)
    (ends_by _ (run_refused g.D.Disk.state c.args.asked.limit _ _ _ _ _ (none_called _ _ (disks.coherent c.args.lathe.disk)) c.in-Err.ensures.refused)
    c.refuse-status.ensures))
