-- For the loop of `walk` (src/seats/paths.rt): the stepper is still of the table and path of its
-- beginning.
use Rattle.std.proofs.Common.{◌≡◌}
use Rattle.lane_vectors.proofs.seats.paths.walk.Given as goal

abbrev pub invariant-loop : goal.invariant-loop
invariant-loop g l =
    (goal.iterator-loop g).can_next l.iterator' × (goal.iterator-loop g).is_finite l.iterator'
    × (g.S.Stepper.origin l.stepper ≡ g.S.Stepper.origin l.initial.stepper)
