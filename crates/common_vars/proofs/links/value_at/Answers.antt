-- `value_at` finds the latest write that is early enough; without one the variable is vacant
-- (src/links.rt).
use Rattle.common_vars.proofs.Latest.{value-read, value-none}
use Rattle.common_vars.proofs.links.value_at.Goals as goal

pub returns-then-node-stamp : goal.returns-then-node-stamp
returns-then-node-stamp c =
    value-read _ _ _ _ _ (rw c.in-Some.is at c.loop-place.invariant) c.index-nodes-here.is c.if-node-stamp.true

pub returns : goal.returns
returns c = value-none _ _ _ (rw c.in_default.is at c.loop-place.invariant)
