-- The machine is the fold of the records so far, and the zones that are kept go on to be all zones
-- (loop of `kept_boxes`, src/meetings.rt).
use Rattle.std.proofs.Common.{◌≡◌, ◌+◌, ◌≤◌, [], length, take, drop}
use Rattle.two_path.specs.Machine.{without_reads}
use Rattle.two_path.specs.Turns.{tapes_of}
use Rattle.two_path.specs.Histories.{IsLegal, fold}
use Rattle.two_path.specs.Joined.{AreAtTheirWaits}
use Rattle.two_path.specs.Start.{machine_at_start}
use Rattle.zone_check.specs.Kept.{standing_at, zones_from}
use Rattle.zone_check.proofs.meetings.kept_boxes.Given as goal

abbrev pub invariant-loop-index : goal.invariant-loop-index
invariant-loop-index l = record {
  folds : l.machine.machine
      ≡ fold (tapes_of l.left l.right) (machine_at_start l.left l.right l.settings) (take l.index l.entries.items);
  legal : IsLegal (tapes_of l.left l.right) l.machine.machine (drop l.index l.entries.items);
  no_reads : without_reads l.machine.machine ≡ l.machine.machine;
  waits : AreAtTheirWaits l.left.order l.right.order l.machine.machine;
  room : length l.entries.items ≤ l.machine.machine.count + l.machine.room;
  all : zones_from (tapes_of l.left l.right) l.zones l.machine.machine l.kept (drop l.index l.entries.items)
      ≡ zones_from (tapes_of l.left l.right) l.zones (machine_at_start l.left l.right l.settings)
      (record { list = []; standing = standing_at (machine_at_start l.left l.right l.settings) }) l.entries.items;
}
