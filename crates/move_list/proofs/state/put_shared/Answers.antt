-- For the proof of `put_shared` (src/state.rt): the shared variables and the number of records are
-- put, in order, or a prefix of them.
use Rattle.nc_verify.proofs.Put.{put_then, put_stops}
use Rattle.move_list.specs.State.{shared_lines}
use Rattle.move_list.proofs.state.put_shared.Goals as goal

pub returns-in-Ok : goal.returns-in-Ok
unfolding shared_lines
returns-in-Ok g c = put_then _ _ _ _ _ _ c.in-Ok.ensures c.put_records.ensures

pub returns-in-Err : goal.returns-in-Err
unfolding shared_lines
returns-in-Err g c = put_stops _ _ _ _ _ c.in-Err.ensures
