-- For the proof of `put_at`: it puts where the turret of a path begins; if the sink fails, a prefix
-- of that (src/tracing.rt).
use Rattle.trace_list.specs.TraceText.{At}
use Rattle.trace_list.proofs.InParts.{one_line}
use Rattle.trace_list.proofs.tracing.put_at.Goals as goal

pub returns : goal.returns
returns g c = one_line _ _ (At c.args.path c.args.at) _ (rw (c.at_line.ensures) at c.put_piece.ensures)
