-- The moves of a path in the trace of a history are those of the history's report, in the same
-- order and with the same lines (src/laws.rt).
use Rattle.trace_list.proofs.SameMoves.{same_moves}
use Rattle.trace_list.proofs.laws.a_trace_has_the_moves_of_the_report.Goals as goal

pub returns : goal.returns
returns c = same_moves
