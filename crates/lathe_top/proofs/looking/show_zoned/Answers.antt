-- For the proof of `show_zoned` (src/looking.rt): the zones of the run are shown by those of the
-- file; or it is told why the file gives none.
use Rattle.std.proofs.Common.{[], ◌∷◌}
use Rattle.lathe_calls.proofs.Ended.{ends_by}
use Rattle.lathe_looks.specs.Fetched.{answers}
use Rattle.lathe_top.specs.Zoned.{zoned}
use Rattle.lathe_top.proofs.Opened.{none_called}
use Rattle.lathe_top.proofs.ZonesDue.{unzoned_due}
use Rattle.lathe_top.proofs.looking.show_zoned.Goals as goal

pub returns-in-Ok : goal.returns-in-Ok
returns-in-Ok g c =
    let read = c.in-Ok.ensures.read in
    ends_by _ (λ answer due. answers (read.text ∷ []) read.had (zoned read.is due.0 due.1)) (rw (c.in-Ok.ensures.silent) at c.look_by.ensures)

pub returns-in-Err : goal.returns-in-Err
returns-in-Err g c =
    rw c.at_rest.ensures
    (ends_by _ (λ answer due. unzoned_due _ _ _ _ _ answer due (none_called _ _ (g.met.D.Disk.coherent c.args.lathe.disk))) c.in-Err.ensures.told)
