-- For the loop of `give_turns` (src/ordering.rt): the events so far and those of the further turns
-- are all events, and the machine after the further turns is that after all.
use Rattle.std.proofs.Common.{◌≡◌, ◌++◌, drop, map}
use Rattle.two_path.specs.Turns.{tapes_of}
use Rattle.two_path.specs.Histories.{run, turns_of}
use Rattle.two_path.specs.Joined.{AreAtTheirWaits}
use Rattle.lathe_calls.specs.Order.{events_from, turns_given, path_at}
use Rattle.lathe_calls.proofs.ordering.give_turns.Given as goal

abbrev pub invariant-loop-byte : goal.invariant-loop-byte
invariant-loop-byte l = record {
  list : l.list.items ++ events_from (tapes_of l.left l.right) l.machine.machine
      (turns_given (tapes_of l.left l.right) l.most l.machine.machine (map path_at (drop l.byte-index l.order)))
      ≡ l.fn.list.items ++ events_from (tapes_of l.left l.right) l.fn.machine.machine
      (turns_given (tapes_of l.left l.right) l.most l.fn.machine.machine (map path_at l.order));
  machine : run (tapes_of l.left l.right) l.machine.machine
      (turns_of (turns_given (tapes_of l.left l.right) l.most l.machine.machine (map path_at (drop l.byte-index l.order))))
      ≡ run (tapes_of l.left l.right) l.fn.machine.machine
      (turns_of (turns_given (tapes_of l.left l.right) l.most l.fn.machine.machine (map path_at l.order)));
  waits : AreAtTheirWaits l.left.order l.right.order l.machine.machine;
}
