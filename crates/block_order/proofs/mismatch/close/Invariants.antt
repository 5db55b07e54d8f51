-- The stack is as it was, and no loop from `at` on has the name. What the loop of `close` keeps
-- (src/mismatch.rt).
use Rattle.std.proofs.Common.{◌≡◌, ◌≤◌, ◌++◌, length, take, drop}
use Rattle.block_order.specs.Loops.{open_after_end}
use Rattle.block_order.specs.Misplaced.{open_loops}
use Rattle.block_order.proofs.mismatch.close.Given as goal

abbrev pub invariant-loop-at : goal.invariant-loop-at
invariant-loop-at l = record {
  same : l.stack.items ≡ l.fn.stack.items;
  within : l.at ≤ length l.stack.items;
  below : open_after_end l.name (open_loops l.stack.items)
      ≡ open_loops (drop l.at l.stack.items) ++ open_after_end l.name (open_loops (take l.at l.stack.items));
}

abbrev pub decreases-loop-at : goal.decreases-loop-at
decreases-loop-at l = l.at
