-- For the loop of `Bench::into_table` (src/sharing.rt): the place holds what it held.
use Rattle.std.proofs.Common.{◌≡◌}
use Rattle.std.specs.Arc.{arc_value}
use Rattle.lane_pair.proofs.sharing.Bench.into_table.Given as goal

abbrev pub invariant-loop : goal.invariant-loop
invariant-loop g l =
    (goal.iterator-loop g).can_next l.iterator' × (goal.iterator-loop g).is_finite l.iterator'
    × (arc_value l.seats ≡ arc_value l.initial.seats)
