-- The labels so far are those before and as many runs as were added. What the loop of
-- `append_times` keeps (src/piece.rt).
use Rattle.std.proofs.Common.{◌≡◌, ◌≤◌, ◌++◌, length}
use Rattle.nc_number.specs.declared.limits.TheConstants.{MOST_LABELS}
use Rattle.label_list.specs.Pieces.{repeated_labels}
use Rattle.label_list.proofs.piece.append_times.Given as goal

abbrev pub invariant-loop-time : goal.invariant-loop-time
invariant-loop-time l = record {
  are : l.labels.items ≡ l.fn.labels.items ++ repeated_labels l._time l.more;
  few : length l.labels.items ≤ MOST_LABELS;
}
