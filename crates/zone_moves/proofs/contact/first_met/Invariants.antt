-- The first of the stretches that are left that meets this one is the first of all (loop of
-- `first_met`, src/contact.rt).
use Rattle.std.proofs.Common.{◌≡◌, drop}
use Rattle.zone_moves.specs.Pairs.{first_met}
use Rattle.zone_moves.proofs.contact.first_met.Given as goal

abbrev pub invariant-loop-other : goal.invariant-loop-other
invariant-loop-other l = first_met l.fn.gap l.fn.stretch (drop l.other-index l.others) ≡ first_met l.fn.gap l.fn.stretch l.fn.others
