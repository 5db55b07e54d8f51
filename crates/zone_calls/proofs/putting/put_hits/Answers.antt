-- For the proof of `put_hits` (src/putting.rt): how many races there are is written, and then the last
-- line.
use Rattle.nc_verify.proofs.Put.{put_then, put_stops}
use Rattle.zone_calls.proofs.putting.put_hits.Goals as goal

pub returns-in-Ok : goal.returns-in-Ok
returns-in-Ok g c = put_then _ _ _ _ _ _ (rw c.races_line.ensures at c.in-Ok.ensures) c.write_end.ensures

pub returns-in-Err : goal.returns-in-Err
returns-in-Err g c = put_stops _ _ _ _ _ (rw c.races_line.ensures at c.in-Err.ensures)
