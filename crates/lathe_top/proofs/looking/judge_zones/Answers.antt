-- For the proof of `judge_zones` (src/looking.rt): what a file of zones asks for of a pair's run is
-- told, and neither the disk nor a turret is called.
use Rattle.lathe_calls.proofs.Ended.{ends_by}
use Rattle.lathe_top.proofs.Opened.{none_called}
use Rattle.lathe_top.proofs.looking.judge_zones.Goals as goal

pub returns : goal.returns
returns g c =
    rw c.at_rest.ensures (ends_by _ (λ answer due. (due, none_called _ _ (g.met.D.Disk.coherent c.args.lathe.disk))) c.ask_zones.ensures)
