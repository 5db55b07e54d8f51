-- The programs so far have no fault in what jumps and calls find. What the loop of `finding_fault`
-- keeps (src/finding.rt).
use Rattle.block_order.proofs.Findable.{ClearFinds}
use Rattle.block_order.proofs.finding.finding_fault.Given as goal

abbrev pub invariant-loop-at : goal.invariant-loop-at
invariant-loop-at l = ClearFinds l.tape l.at
