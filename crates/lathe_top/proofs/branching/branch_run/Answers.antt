-- For the proof of `branch_run` (src/branching.rt): the run on the disk is branched; or it is told
-- why no run is found, and the second disk is not called.
use Rattle.std.proofs.Common.{refl}
use Rattle.lathe_calls.proofs.Ended.{ends_just}
use Rattle.lathe_top.specs.Branched.{not_found}
use Rattle.lathe_top.proofs.branching.branch_run.Goals as goal

pub returns-in-Ok : goal.returns-in-Ok
returns-in-Ok g c = c.branch_found.ensures c.args.disk c.in-Ok.ensures.recovers

pub returns-in-Err : goal.returns-in-Err
returns-in-Err g c = ends_just _ _ (not_found c.in-Err.fault c.in-Err.ensures.recovers refl) c.tell_unfound.ensures
