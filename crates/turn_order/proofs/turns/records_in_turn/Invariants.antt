-- The records so far are those of the turns so far, there are no more than there may be, and fewer
-- turns are left each time (loop of `records_in_turn`, src/turns.rt).
use Rattle.std.proofs.Common.{◌≤◌, length}
use Rattle.two_path.specs.Histories.{IsKept}
use Rattle.two_path.specs.Joined.{AreAtTheirWaits}
use Rattle.turn_order.specs.InTurn.{start_of, tapes_in}
use Rattle.turn_order.proofs.SoFar.{IsSoFar}
use Rattle.turn_order.proofs.Turned.{turns_left}
use Rattle.turn_order.proofs.turns.records_in_turn.Given as goal

abbrev pub invariant-loop-end : goal.invariant-loop-end
invariant-loop-end l = record {
  so_far : IsSoFar (tapes_in l.verified) (start_of l.verified) l.path l.machine.machine l.entries.items;
  kept : IsKept (tapes_in l.verified) (start_of l.verified) l.entries.items l.machine.machine;
  waits : AreAtTheirWaits l.verified.left.order l.verified.right.order l.machine.machine;
  within : length l.entries.items ≤ l.limit;
}

abbrev pub decreases-loop-end : goal.decreases-loop-end
decreases-loop-end l = turns_left l.limit l.path l.machine.machine
