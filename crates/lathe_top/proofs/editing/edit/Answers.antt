-- For the proof of `edit` (src/editing.rt): the edits of the file are made; or it is told why the
-- file gives none.
use Rattle.std.proofs.Common.{[], ◌∷◌}
use Rattle.lathe_calls.proofs.Ended.{ends_by}
use Rattle.lathe_looks.specs.Fetched.{answers}
use Rattle.lathe_top.specs.Edited.{edited}
use Rattle.lathe_top.proofs.Opened.{none_called}
use Rattle.lathe_top.proofs.EditsDue.{unedited_due}
use Rattle.lathe_top.proofs.editing.edit.Goals as goal

pub returns-in-Ok : goal.returns-in-Ok
returns-in-Ok g c =
    let read = c.in-Ok.ensures.read in
    ends_by _ (λ answer due. answers (read.text ∷ []) read.had (edited read.are due.0 due.1)) (rw (c.in-Ok.ensures.silent) at c.edit_by.ensures)

pub returns-in-Err : goal.returns-in-Err
returns-in-Err g c =
    rw c.at_rest.ensures
    (ends_by _ (λ answer due. unedited_due _ _ _ _ _ answer due (none_called _ _ (g.met.D.Disk.coherent c.args.lathe.disk))) c.in-Err.ensures.told)
