-- Which pairs of tapes are accepted: whatever their variables hold, both paths come to the same
-- labels (waits and ends that the other path can notice) in the same order.
use Rattle.std.specs.Prelude.{◌≡◌, ◌≤◌, List, length}
use Rattle.nc_number.specs.declared.limits.TheConstants.{MOST_LABELS}
use Rattle.block_order.specs.declared.program.ControlProgram.{ControlProgram}
use Rattle.block_order.specs.Labels.{IsUnforked, list}
use Rattle.label_list.specs.Lists.{bare_labels, path_labels}

-- Each tape has one list of labels, which is not too long, and the two lists are equal.
pub record IsAcceptedPair (left right : List ControlProgram) : Type 0 where
  -- The tape of path 1 has one list of labels.
  pub left_unforked : IsUnforked left
  -- The tape of path 2 has one list of labels.
  pub right_unforked : IsUnforked right
  -- The list of path 1 has at most 65,536 labels.
  pub left_few : length (list left) ≤ MOST_LABELS
  -- The list of path 2 has at most 65,536 labels.
  pub right_few : length (list right) ≤ MOST_LABELS
  -- Both lists are equal.
  pub same : list left ≡ list right

-- The lists of both tapes with their lines are not too long, and are equal, lines aside.
pub record AgreeOnLabels (left right : List ControlProgram) : Type 0 where
  -- The list of path 1 has at most 65,536 labels.
  pub left_few : length (path_labels left) ≤ MOST_LABELS
  -- The list of path 2 has at most 65,536 labels.
  pub right_few : length (path_labels right) ≤ MOST_LABELS
  -- Both lists are equal, lines aside.
  pub same : bare_labels (path_labels left) ≡ bare_labels (path_labels right)
