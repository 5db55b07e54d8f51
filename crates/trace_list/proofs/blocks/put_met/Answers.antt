-- For the proof of `put_met`: it puts that both paths meet; if the sink fails, a prefix of that
-- (src/blocks.rt).
use Rattle.trace_list.specs.TraceText.{Met}
use Rattle.trace_list.proofs.InParts.{one_line}
use Rattle.trace_list.proofs.blocks.put_met.Goals as goal

pub returns : goal.returns
returns g c = one_line _ _ (Met c.args.number c.args.code c.args.lines.one c.args.lines.two) _ (rw (c.met_line.ensures) at c.put_piece.ensures)
