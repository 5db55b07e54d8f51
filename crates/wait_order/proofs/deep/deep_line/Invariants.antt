-- The line so far is that of the first ninth call among the programs before. What the loop of
-- `deep_line` keeps (src/deep.rt).
use Rattle.wait_order.specs.Deep.{IsDeepBelow}
use Rattle.wait_order.specs.Waiting.{IsLeast}
use Rattle.wait_order.proofs.deep.deep_line.Given as goal

abbrev pub invariant-loop-program : goal.invariant-loop-program
invariant-loop-program l = IsLeast (IsDeepBelow l.programs l.reached l.program-index) l.first
