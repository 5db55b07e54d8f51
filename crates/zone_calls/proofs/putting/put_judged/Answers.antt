-- For the proof of `put_judged` (src/putting.rt): the lines of the segments are written, and then the
-- last ones.
use Rattle.nc_verify.proofs.Put.{put_then, put_stops}
use Rattle.zone_calls.specs.Zoned.{judged_text}
use Rattle.zone_calls.proofs.putting.put_judged.Goals as goal

pub returns-in-Ok : goal.returns-in-Ok
unfolding judged_text
returns-in-Ok g c = put_then _ _ _ _ _ _ c.in-Ok.ensures c.put_ending.ensures

pub returns-in-Err : goal.returns-in-Err
unfolding judged_text
returns-in-Err g c = put_stops _ _ _ _ _ c.in-Err.ensures
