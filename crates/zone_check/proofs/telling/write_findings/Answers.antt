-- The sink has the head line and the lines of the segments; if it failed, a prefix of that
-- (`write_findings`, src/telling.rt).
use Rattle.nc_verify.proofs.Put.{put_then, put_stops}
use Rattle.zone_check.proofs.telling.write_findings.Goals as goal

pub returns-in-Ok : goal.returns-in-Ok
returns-in-Ok g c = put_then _ _ _ _ _ _ c.in-Ok.ensures c.put_findings.ensures

pub returns-in-Err : goal.returns-in-Err
returns-in-Err g c = put_stops _ _ _ _ _ c.in-Err.ensures
