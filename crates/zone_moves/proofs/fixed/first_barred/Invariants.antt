-- The first of the stretches that are left that a box bars is the first of all (loop of
-- `first_barred`, src/fixed.rt).
use Rattle.std.proofs.Common.{◌≡◌, drop}
use Rattle.zone_moves.specs.Fixed.{first_barred}
use Rattle.zone_moves.proofs.fixed.first_barred.Given as goal

abbrev pub invariant-loop-stretch : goal.invariant-loop-stretch
invariant-loop-stretch l =
    first_barred l.fn.gap l.fn.path l.fn.boxes (drop l.stretch-index l.stretches) ≡ first_barred l.fn.gap l.fn.path l.fn.boxes l.fn.stretches
