-- For the proof of `put_start`: it puts the first line, and how both paths begin; if the sink
-- fails, a prefix of that (src/tracing.rt).
use Rattle.nc_verify.proofs.Put.{put_then, put_stops}
use Rattle.trace_list.proofs.tracing.put_start.Goals as goal

pub returns-in-Ok : goal.returns-in-Ok
returns-in-Ok g c = put_then _ _ _ _ _ _ c.in-Ok.ensures c.put_paths.ensures

pub returns-in-Err : goal.returns-in-Err
returns-in-Err g c = put_stops _ _ _ _ _ c.in-Err.ensures
