-- The sink has the head line, the lines of the zones and the last line; if it failed, a prefix of
-- that (`write_zones`, src/writing.rt).
use Rattle.nc_verify.proofs.Put.{put_then, put_stops}
use Rattle.zone_cell.specs.Lines.{list_text}
use Rattle.zone_check.proofs.writing.write_zones.Goals as goal

pub returns-in-Ok : goal.returns-in-Ok
unfolding list_text
returns-in-Ok g c = put_then _ _ _ _ _ _ c.in-Ok.ensures c.put_rest.ensures

pub returns-in-Err : goal.returns-in-Err
unfolding list_text
returns-in-Err g c = put_stops _ _ _ _ _ c.in-Err.ensures
