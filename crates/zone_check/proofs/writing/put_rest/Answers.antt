-- The sink has the lines of the zones and the last line; if it failed, a prefix of that
-- (`put_rest`, src/writing.rt).
use Rattle.nc_verify.proofs.Put.{put_then, put_stops}
use Rattle.zone_check.proofs.writing.put_rest.Goals as goal

pub returns-in-Ok : goal.returns-in-Ok
returns-in-Ok g c = put_then _ _ _ _ _ _ c.in-Ok.ensures (rw (c.hits.ensures) at c.put_end.ensures)

pub returns-in-Err : goal.returns-in-Err
returns-in-Err g c = put_stops _ _ _ _ _ c.in-Err.ensures
