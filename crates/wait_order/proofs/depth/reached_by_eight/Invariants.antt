-- After so many rounds the flags are those of so many calls. What the loop of `reached_by_eight`
-- keeps (src/depth.rt).
use Rattle.wait_order.specs.Depth.{AreReached}
use Rattle.wait_order.proofs.depth.reached_by_eight.Given as goal

abbrev pub invariant-loop-round : goal.invariant-loop-round
invariant-loop-round l = AreReached l.programs l._round l.reached.items
