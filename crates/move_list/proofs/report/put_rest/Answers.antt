-- For the proof of `put_rest` (src/report.rt): the lines of path 2 and the last lines are put, in
-- order, or a prefix of them.
use Rattle.nc_verify.proofs.Put.{put_then, put_stops}
use Rattle.move_list.proofs.report.put_rest.Goals as goal

pub returns-in-Ok : goal.returns-in-Ok
returns-in-Ok g c = put_then _ _ _ _ _ _ c.in-Ok.ensures c.put_end.ensures

pub returns-in-Err : goal.returns-in-Err
returns-in-Err g c = put_stops _ _ _ _ _ c.in-Err.ensures
