-- For the proof of `write_traced` (src/running.rt): the trace is put and then the races, or a
-- prefix of both.
use Rattle.nc_verify.proofs.Put.{put_then, put_stops}
use Rattle.lathe_calls.proofs.running.write_traced.Goals as goal

pub returns-in-Ok : goal.returns-in-Ok
returns-in-Ok g c = put_then _ _ _ _ _ _ c.in-Ok.ensures c.write_races.ensures

pub returns-in-Err : goal.returns-in-Err
returns-in-Err g c = put_stops _ _ _ _ _ c.in-Err.ensures
