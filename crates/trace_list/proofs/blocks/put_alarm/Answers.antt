-- For the proof of `put_alarm`: it puts an alarm; if the sink fails, a prefix of that
-- (src/blocks.rt).
use Rattle.trace_list.specs.TraceText.{Raised}
use Rattle.trace_list.proofs.InParts.{one_line}
use Rattle.trace_list.proofs.blocks.put_alarm.Goals as goal

pub returns : goal.returns
returns g c = one_line _ _ (Raised c.args.alarm.now) _ (rw (c.alarm_line.ensures) at c.put_piece.ensures)
