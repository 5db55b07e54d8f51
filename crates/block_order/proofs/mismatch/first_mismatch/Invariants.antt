-- The blocks so far and the rest have together the misplaced block and the open loops of the whole.
-- What the loop of `first_mismatch` keeps (src/mismatch.rt).
use Rattle.std.proofs.Common.{◌≡◌, [], drop}
use Rattle.block_order.specs.Order.{or_else}
use Rattle.block_order.specs.Loops.{open_after}
use Rattle.block_order.specs.Misplaced.{open_loops, first_misplaced}
use Rattle.block_order.proofs.mismatch.first_mismatch.Given as goal

abbrev pub invariant-loop-block : goal.invariant-loop-block
invariant-loop-block l = record {
  counted : l.place ≡ l.block-index;
  misplaced : first_misplaced 0 [] l.blocks
      ≡ or_else l.misplaced (first_misplaced l.block-index (open_loops l.stack.items) (drop l.block-index l.blocks));
  opened : open_after 0 [] l.blocks ≡ open_after l.block-index (open_loops l.stack.items) (drop l.block-index l.blocks);
}
