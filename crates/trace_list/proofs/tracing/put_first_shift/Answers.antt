-- For the proof of `put_first_shift`: it puts the shift with which a path begins; if the sink
-- fails, a prefix of that (src/tracing.rt).
use Rattle.trace_list.specs.TraceText.{Shift}
use Rattle.trace_list.proofs.InParts.{one_line}
use Rattle.trace_list.proofs.tracing.put_first_shift.Goals as goal

pub returns : goal.returns
returns g c = one_line _ _ (Shift c.args.path 0 c.args.by) _ (rw (c.shift_line.ensures) at c.put_piece.ensures)
