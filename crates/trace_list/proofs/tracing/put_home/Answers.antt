-- For the proof of `put_home`: it puts the reference position of a path; if the sink fails, a
-- prefix of that (src/tracing.rt).
use Rattle.trace_list.specs.TraceText.{Home}
use Rattle.trace_list.proofs.InParts.{one_line}
use Rattle.trace_list.proofs.tracing.put_home.Goals as goal

pub returns : goal.returns
returns g c = one_line _ _ (Home c.args.path c.args.home) _ (rw (c.home_line.ensures) at c.put_piece.ensures)
