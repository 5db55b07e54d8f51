-- For the proof of `put_wait`: it puts that a path comes to its wait; if the sink fails, a prefix
-- of that (src/blocks.rt).
use Rattle.trace_list.specs.TraceText.{Wait}
use Rattle.trace_list.proofs.InParts.{one_line}
use Rattle.trace_list.proofs.blocks.put_wait.Goals as goal

pub returns : goal.returns
returns g c = one_line _ _ (Wait c.args.path c.args.line c.args.code) _ (rw (c.wait_line.ensures) at c.put_piece.ensures)
