-- For the proof of `write_plain` (src/looking.rt): a shop's tape is written in the language that the
-- control runs, and neither the disk nor a turret is called.
use Rattle.lathe_calls.proofs.Ended.{ends_by}
use Rattle.lathe_top.proofs.Opened.{none_called}
use Rattle.lathe_top.proofs.looking.write_plain.Goals as goal

pub returns : goal.returns
returns g c =
    rw c.at_rest.ensures (ends_by _ (λ answer due. (due, none_called _ _ (g.met.D.Disk.coherent c.args.lathe.disk))) c.plain.ensures)
