-- For the proof of `put_zones` (src/putting.rt): the zones of the history are written, or memory ran
-- out.
use Rattle.nc_verify.proofs.InPieces.{none_put}
use Rattle.zone_calls.proofs.putting.put_zones.Goals as goal

pub returns-in-Ok : goal.returns-in-Ok
returns-in-Ok g c = rw (c.as_slice.ensures.value, c.in-Ok.ensures) at c.write_zones.ensures

pub returns-in-Err : goal.returns-in-Err
returns-in-Err g c = none_put _ _
