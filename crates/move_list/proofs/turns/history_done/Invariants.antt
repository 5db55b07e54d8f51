-- For the loop of `history_done` (src/turns.rt): the machine is the fold of the records so far, and
-- its moves and those of the records that are left are all moves.
use Rattle.std.proofs.Common.{◌≡◌, ◌+◌, ◌≤◌, ◌++◌, length, take, drop}
use Rattle.nc_number.specs.declared.path.Path.TheVariants.{One, Two}
use Rattle.two_path.specs.Machine.{without_reads}
use Rattle.two_path.specs.Turns.{tapes_of}
use Rattle.two_path.specs.Histories.{IsLegal, fold}
use Rattle.two_path.specs.Joined.{AreAtTheirWaits}
use Rattle.two_path.specs.Made.{moves_in, moves_of, turns_from}
use Rattle.two_path.specs.Start.{machine_at_start}
use Rattle.move_list.proofs.turns.history_done.Given as goal

abbrev pub invariant-loop-index : goal.invariant-loop-index
invariant-loop-index l = record {
  folds : l.machine.machine
      ≡ fold (tapes_of l.left l.right) (machine_at_start l.left l.right l.settings) (take l.index l.entries.items);
  legal : IsLegal (tapes_of l.left l.right) l.machine.machine (drop l.index l.entries.items);
  no_reads : without_reads l.machine.machine ≡ l.machine.machine;
  waits : AreAtTheirWaits l.left.order l.right.order l.machine.machine;
  room : length l.entries.items ≤ l.machine.machine.count + l.machine.room;
  one : l.made.one.items ++ moves_in One (turns_from (tapes_of l.left l.right) l.machine.machine (drop l.index l.entries.items))
      ≡ moves_of (tapes_of l.left l.right) (machine_at_start l.left l.right l.settings) One l.entries.items;
  two : l.made.two.items ++ moves_in Two (turns_from (tapes_of l.left l.right) l.machine.machine (drop l.index l.entries.items))
      ≡ moves_of (tapes_of l.left l.right) (machine_at_start l.left l.right l.settings) Two l.entries.items;
}
