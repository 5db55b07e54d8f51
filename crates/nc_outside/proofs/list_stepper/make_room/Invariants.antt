-- The calls that a stepper kept stay while memory is waited for (loop of `make_room`,
-- src/list_stepper.rt).
use Rattle.std.proofs.Common.{◌≡◌}
use Rattle.nc_outside.proofs.list_stepper.make_room.Given as goal

abbrev pub invariant-loop : goal.invariant-loop
invariant-loop g l =
    (goal.iterator-loop g).can_next l.iterator' × (goal.iterator-loop g).is_finite l.iterator' × (l.calls.items ≡ l.initial.calls.items)
