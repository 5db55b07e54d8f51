-- For the proof of `put_trace`: it puts the trace of a history; if the sink fails or memory runs
-- out, a prefix of that (src/tracing.rt).
use Rattle.nc_verify.proofs.InPieces.{none_put}
use Rattle.trace_list.proofs.tracing.put_trace.Goals as goal

pub returns-in-Err : goal.returns-in-Err
returns-in-Err g c = none_put _ _
