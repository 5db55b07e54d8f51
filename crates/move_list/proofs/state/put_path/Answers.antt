-- For the proof of `put_path` (src/state.rt): the standing of a path and what its listings have are
-- put, in order, or a prefix of them.
use Rattle.nc_verify.proofs.Put.{put_then, put_stops}
use Rattle.move_list.specs.State.{path_lines}
use Rattle.move_list.proofs.state.put_path.Goals as goal

pub returns-in-Ok : goal.returns-in-Ok
unfolding path_lines
returns-in-Ok g c = put_then _ _ _ _ _ _ c.in-Ok.ensures c.put_listings.ensures

pub returns-in-Err : goal.returns-in-Err
unfolding path_lines
returns-in-Err g c = put_stops _ _ _ _ _ c.in-Err.ensures
