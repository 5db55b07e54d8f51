-- For the proof of `resume` (src/resuming.rt): the run on the disk goes on; or it is told why no
-- run is found.
use Rattle.std.proofs.Common.{refl}
use Rattle.nc_number.specs.Both.{both_of}
use Rattle.lathe_top.specs.Held.{lathe_left}
use Rattle.lathe_top.specs.Lathe.{LatheState}
use Rattle.lathe_top.specs.Ran.{not_found}
use Rattle.lathe_calls.proofs.Ended.{ends_by, ends_just}
use Rattle.lathe_top.proofs.RunsFound.{found_run}
use Rattle.lathe_top.proofs.resuming.resume.Goals as goal

pub returns-in-Ok : goal.returns-in-Ok
returns-in-Ok g c =
    let state = g.D.Disk.state in
    let turret = g.T.Turret.state in
    let found = c.in-Ok.found in
    let before = both_of turret c.args.lathe.turrets in
    let after : LatheState = lathe_left state turret c.resume_found.result in
    ends_by _
    (found_run state c.no_history_is_stuck.ensures c.args.limit (record { header = found.header; entries = found.entries.items }) found.verified
    (state c.args.lathe.disk) found.journal.file.disk before after c.in-Ok.ensures.recovers c.in-Ok.ensures.run.accepted)
    c.resume_found.ensures

pub returns-in-Err : goal.returns-in-Err
returns-in-Err g c = rw c.at_rest.ensures (ends_just _ _ (not_found c.in-Err.fault c.in-Err.ensures.recovers (refl, refl)) c.tell_unfound.ensures)
