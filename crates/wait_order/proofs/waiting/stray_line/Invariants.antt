-- The line so far is the first of the programs before that may pass a wait. What the loop of
-- `stray_line` keeps (src/waiting.rt).
use Rattle.wait_order.specs.TapeFaults.{IsStrayLineBelow}
use Rattle.wait_order.specs.Waiting.{IsLeast}
use Rattle.wait_order.proofs.waiting.stray_line.Given as goal

abbrev pub invariant-loop-at : goal.invariant-loop-at
invariant-loop-at l = IsLeast (IsStrayLineBelow l.programs l.at) l.first
