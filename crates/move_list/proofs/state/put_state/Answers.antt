-- For the proof of `put_state` (src/state.rt): the lines of both paths and of what they share are
-- put, in order, or a prefix of them.
use Rattle.nc_verify.proofs.Put.{put_then, put_stops}
use Rattle.move_list.specs.State.{state_text}
use Rattle.move_list.proofs.state.put_state.Goals as goal

pub returns-in-Ok : goal.returns-in-Ok
unfolding state_text
returns-in-Ok g c = put_then _ _ _ _ _ _ c.in-Ok.ensures c.put_rest.ensures

pub returns-in-Err : goal.returns-in-Err
unfolding state_text
returns-in-Err g c = put_stops _ _ _ _ _ c.in-Err.ensures
