-- For the proof of `put_move`: it puts the line of a move; if the sink fails, a prefix of that
-- (src/blocks.rt).
use Rattle.nc_verify.proofs.Put.{put_then, put_stops}
use Rattle.trace_list.specs.TraceText.{trace_line_text}
use Rattle.trace_list.proofs.blocks.put_move.Goals as goal

pub returns-in-Ok : goal.returns-in-Ok
unfolding trace_line_text
returns-in-Ok g c = put_then _ _ _ _ _ _ c.in-Ok.ensures c.put_lined.ensures

pub returns-in-Err : goal.returns-in-Err
unfolding trace_line_text
returns-in-Err g c = put_stops _ _ _ _ _ c.in-Err.ensures
