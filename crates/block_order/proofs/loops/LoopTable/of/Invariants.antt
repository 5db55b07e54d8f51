-- The blocks so far have their ENDs and innermost loops, and `open` is the head of the innermost
-- loop that is open before the next block. What the loop of `of` keeps (src/loops.rt).
use Rattle.std.proofs.Common.{◌≡◌, length}
use Rattle.block_order.specs.Fitting.{innermost, IsInside, IsEnds}
use Rattle.block_order.proofs.loops.LoopTable.of.Given as goal

abbrev pub invariant-loop-block : goal.invariant-loop-block
invariant-loop-block l = record {
  counted : l.place ≡ l.block-index;
  long_inside : length l.inside.items ≡ l.block-index;
  long_ends : length l.ends.items ≡ l.block-index;
  inside : IsInside l.blocks l.block-index l.inside.items;
  ends : IsEnds l.blocks l.block-index l.ends.items;
  open_is : l.open ≡ innermost l.blocks l.block-index;
}
