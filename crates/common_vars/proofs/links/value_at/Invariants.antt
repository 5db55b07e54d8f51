-- No write of the variable after the place is early enough, and each step goes to an earlier place
-- (loop of `value_at`, src/links.rt).
use Rattle.common_vars.specs.Links.{IsPast}
use Rattle.common_vars.proofs.Steps.{steps_left}
use Rattle.common_vars.proofs.links.value_at.Given as goal

abbrev pub invariant-loop-place : goal.invariant-loop-place
invariant-loop-place l = IsPast l.nodes l.stamp l.v l.place

abbrev pub decreases-loop-place : goal.decreases-loop-place
decreases-loop-place l = steps_left l.place
