-- For the proof of `put_ended`: it puts that a path ends at this line; if the sink fails, a prefix
-- of that (src/blocks.rt).
use Rattle.trace_list.specs.TraceText.{Ended}
use Rattle.trace_list.proofs.InParts.{one_line}
use Rattle.trace_list.proofs.blocks.put_ended.Goals as goal

pub returns : goal.returns
returns g c = one_line _ _ (Ended c.args.path c.args.line) _ (rw (c.ended_line.ensures) at c.put_piece.ensures)
