-- The machine is the fold of the records so far, and what is kept goes on to be all findings
-- (loop of `kept_findings`, src/judging.rt).
use Rattle.std.proofs.Common.{◌≡◌, ◌+◌, ◌≤◌, [], None, length, take, drop}
use Rattle.two_path.specs.Machine.{without_reads}
use Rattle.two_path.specs.Turns.{tapes_of}
use Rattle.two_path.specs.Histories.{IsLegal, fold}
use Rattle.two_path.specs.Joined.{AreAtTheirWaits}
use Rattle.two_path.specs.Start.{machine_at_start}
use Rattle.zone_check.specs.Trailed.{trails_at, findings_from}
use Rattle.zone_check.proofs.judging.kept_findings.Given as goal

abbrev pub invariant-loop-index : goal.invariant-loop-index
invariant-loop-index l = record {
  folds : l.machine.machine
      ≡ fold (tapes_of l.left l.right) (machine_at_start l.left l.right l.settings) (take l.index l.entries.items);
  legal : IsLegal (tapes_of l.left l.right) l.machine.machine (drop l.index l.entries.items);
  no_reads : without_reads l.machine.machine ≡ l.machine.machine;
  waits : AreAtTheirWaits l.left.order l.right.order l.machine.machine;
  room : length l.entries.items ≤ l.machine.machine.count + l.machine.room;
  all : findings_from (tapes_of l.left l.right) l.cell l.machine.machine l.kept (drop l.index l.entries.items)
      ≡ findings_from (tapes_of l.left l.right) l.cell (machine_at_start l.left l.right l.settings)
      (record { list = []; met = None; trails = trails_at l.cell (machine_at_start l.left l.right l.settings) }) l.entries.items;
}
