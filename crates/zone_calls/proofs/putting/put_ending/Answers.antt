-- For the proof of `put_ending` (src/putting.rt): why the run ended is written, and then the lines
-- behind it.
use Rattle.nc_verify.proofs.Put.{put_then, put_stops}
use Rattle.zone_calls.specs.Zoned.{last_text}
use Rattle.zone_calls.proofs.putting.put_ending.Goals as goal

pub returns-in-Ok : goal.returns-in-Ok
unfolding last_text
returns-in-Ok g c = put_then _ _ _ _ _ _ (rw c.unfinished_lines.ensures at c.in-Ok.ensures) c.put_hits.ensures

pub returns-in-Err : goal.returns-in-Err
unfolding last_text
returns-in-Err g c = put_stops _ _ _ _ _ (rw c.unfinished_lines.ensures at c.in-Err.ensures)
