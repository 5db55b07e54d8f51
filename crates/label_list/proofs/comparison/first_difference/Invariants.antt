-- The labels so far are equal. What the loop of `first_difference` keeps (src/comparison.rt).
use Rattle.std.proofs.Common.{◌≡◌, take}
use Rattle.label_list.specs.Lists.{bare_labels}
use Rattle.label_list.proofs.comparison.first_difference.Given as goal

abbrev pub invariant-loop-after : goal.invariant-loop-after
invariant-loop-after l = bare_labels (take l.after l.left) ≡ bare_labels (take l.after l.right)
