-- Whether one of those that are left is met is whether one of all is (loop of `is_one_met`,
-- src/contact.rt).
use Rattle.std.proofs.Common.{◌≡◌, drop}
use Rattle.zone_moves.specs.Pairs.{any_met}
use Rattle.zone_moves.proofs.contact.is_one_met.Given as goal

abbrev pub invariant-loop-stretch : goal.invariant-loop-stretch
invariant-loop-stretch l = any_met l.fn.gap (drop l.stretch-index l.left) l.fn.right ≡ any_met l.fn.gap l.fn.left l.fn.right
