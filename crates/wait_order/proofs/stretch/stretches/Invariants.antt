-- The list so far and the stretches of the blocks ahead are those of all blocks. A stretch is the
-- run of blocks up to a wait, an end, an M99 without a number, or a call that leads to a wait or an
-- end. What the loop of `stretches` keeps (src/stretch.rt).
use Rattle.std.proofs.Common.{◌≡◌, ◌≤◌, ◌++◌, drop}
use Rattle.block_order.specs.Heard.{is_kept_loud}
use Rattle.wait_order.specs.Stretches.{stretches_from}
use Rattle.wait_order.proofs.stretch.stretches.Given as goal

abbrev pub invariant-loop-block : goal.invariant-loop-block
invariant-loop-block l = record {
  few : l.marks ≤ l.block-index;
  is : l.found.items ++ stretches_from (is_kept_loud l.loud) l.marks (drop l.block-index l.blocks)
      ≡ stretches_from (is_kept_loud l.loud) 0 l.blocks;
}
