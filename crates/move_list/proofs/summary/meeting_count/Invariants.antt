-- For the loop of `meeting_count` (src/summary.rt): the count is that of the meetings among the
-- records so far.
use Rattle.std.proofs.Common.{◌≡◌, ◌≤◌, length, take}
use Rattle.move_list.specs.Summary.{meetings_in}
use Rattle.move_list.proofs.summary.meeting_count.Given as goal

abbrev pub invariant-loop-index : goal.invariant-loop-index
invariant-loop-index l = record {
  counted : l.count ≡ length (meetings_in (take l.index l.entries.items));
  few : l.count ≤ l.index;
}
