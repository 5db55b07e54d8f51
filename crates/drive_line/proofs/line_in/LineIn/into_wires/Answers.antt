-- Each mark that the worker sent along its line, one for a drain, has its answer among those
-- received (`LineIn::into_wires`, src/line_in.rt).
use Rattle.std.proofs.Common.{subst, All, Contains}
use Rattle.drive_line.specs.Line.{Sending, mark_counts}
use Rattle.drive_line.proofs.line_in.LineIn.into_wires.Goals as goal

pub returns-clause-answered : goal.returns-clause-answered
returns-clause-answered c = subst (λ (s : Sending). All (Contains s.received) (mark_counts 0 s.items)) c.self.view_is c.self.invariant.answered
