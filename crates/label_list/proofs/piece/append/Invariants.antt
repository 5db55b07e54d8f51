-- The labels so far and those that are left to add are those before and all that are added. What
-- the loop of `append` keeps (src/piece.rt).
use Rattle.std.proofs.Common.{◌≡◌, ◌≤◌, ◌++◌, drop, length}
use Rattle.nc_number.specs.declared.limits.TheConstants.{MOST_LABELS}
use Rattle.label_list.proofs.piece.append.Given as goal

abbrev pub invariant-loop-label : goal.invariant-loop-label
invariant-loop-label l = record {
  are : l.labels.items ++ drop l.label-index l.more ≡ l.fn.labels.items ++ l.more;
  few : length l.labels.items ≤ MOST_LABELS;
}
