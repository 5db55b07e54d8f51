-- For the proof of `make` (src/making.rt): without memory for the made pair nothing is told, and
-- nothing is run.
use Rattle.lathe_top.specs.Ran.{unjudged}
use Rattle.lathe_calls.proofs.Ended.{ends_untold}
use Rattle.lathe_top.proofs.Opened.{none_called}
use Rattle.lathe_top.proofs.making.make.Goals as goal

pub returns-in-Err : goal.returns-in-Err
returns-in-Err g c =
    let disks = g.met.D.Disk g.world.𝓛 g.world.𝓜 g.world.𝓡 ((λ s x. x), (λ x. x), (λ x. x), λ x. x) in
    rw c.at_rest.ensures (ends_untold _ (unjudged (none_called _ _ (disks.coherent c.args.lathe.disk))))
