-- The labels so far are on equal lines, and the rest decides (loop of `first_change`,
-- src/hangings.rt).
use Rattle.std.proofs.Common.{◌≡◌, length}
use Rattle.wait_verify.specs.Hangings.{first_change}
use Rattle.wait_verify.proofs.hangings.first_change.Given as goal

abbrev pub invariant-loop-one : goal.invariant-loop-one
invariant-loop-one l = first_change l.left l.right ≡ first_change l.own l.other

abbrev pub decreases-loop-one : goal.decreases-loop-one
decreases-loop-one l = length l.left
