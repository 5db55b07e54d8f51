-- For the loop of `put_from` (src/tracing.rt): the machine is the fold of the records so far, and
-- the events of the others, with the last lines, are the rest of the text.
use Rattle.std.proofs.Common.{◌≡◌, ◌≤◌, ◌++◌, length, take, drop}
use Rattle.two_path.specs.Machine.{without_reads}
use Rattle.two_path.specs.Turns.{tapes_of}
use Rattle.two_path.specs.Histories.{IsLegal, fold}
use Rattle.two_path.specs.Joined.{AreAtTheirWaits}
use Rattle.move_list.specs.EndText.{end_text}
use Rattle.two_path.specs.Start.{machine_at_start}
use Rattle.trace_list.specs.Trace.{trace_text, traced_lines}
use Rattle.trace_list.specs.TraceText.{lines_text}
use Rattle.trace_list.proofs.InParts.{HasPut}
use Rattle.trace_list.proofs.tracing.put_from.Given as goal

abbrev pub invariant-loop-index : goal.invariant-loop-index
invariant-loop-index g l = record {
  folds : l.machine.machine
      ≡ fold (tapes_of l.left l.right) (machine_at_start l.left l.right l.settings) (take l.index l.entries.items);
  legal : IsLegal (tapes_of l.left l.right) l.machine.machine (drop l.index l.entries.items);
  no_reads : without_reads l.machine.machine ≡ l.machine.machine;
  waits : AreAtTheirWaits l.left.order l.right.order l.machine.machine;
  met : l.met ≤ l.index;
  put : HasPut (g.K.Sink.state l.fn.sink) (g.K.Sink.state l.sink)
      (lines_text (traced_lines (tapes_of l.left l.right) l.met l.machine.machine (drop l.index l.entries.items)) ++ end_text (length l.entries.items) l.reason)
      (trace_text (tapes_of l.left l.right) (machine_at_start l.left l.right l.settings) l.entries.items l.reason);
}
