-- For the proof of `edit_run` (src/editing.rt): the edits are made in the run on the disk; or it is
-- told why no run is found.
use Rattle.lathe_calls.proofs.Ended.{ends_just}
use Rattle.lathe_top.specs.Edited.{not_found}
use Rattle.lathe_top.proofs.editing.edit_run.Goals as goal

pub returns-in-Ok : goal.returns-in-Ok
returns-in-Ok g c = c.edit_found.ensures c.args.disk c.in-Ok.ensures.recovers

pub returns-in-Err : goal.returns-in-Err
returns-in-Err g c = ends_just _ _ (not_found c.in-Err.fault c.in-Err.ensures.recovers) c.tell_unfound.ensures
