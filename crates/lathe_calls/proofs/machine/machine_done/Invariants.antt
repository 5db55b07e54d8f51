-- For the loop of `machine_done` (src/machine.rt): the machine is that after the records so far,
-- and the others are legal there.
use Rattle.std.proofs.Common.{◌≡◌, drop, take}
use Rattle.two_path.specs.Machine.{without_reads}
use Rattle.two_path.specs.Turns.{tapes_of}
use Rattle.two_path.specs.Histories.{IsLegal, fold}
use Rattle.two_path.specs.Joined.{AreAtTheirWaits}
use Rattle.two_path.specs.Start.{machine_at_start}
use Rattle.lathe_calls.proofs.machine.machine_done.Given as goal

abbrev pub invariant-loop-index : goal.invariant-loop-index
invariant-loop-index l = record {
  folds : l.machine.machine
      ≡ fold (tapes_of l.left l.right) (machine_at_start l.left l.right l.settings) (take l.index l.entries.items);
  legal : IsLegal (tapes_of l.left l.right) l.machine.machine (drop l.index l.entries.items);
  no_reads : without_reads l.machine.machine ≡ l.machine.machine;
  waits : AreAtTheirWaits l.left.order l.right.order l.machine.machine;
}
