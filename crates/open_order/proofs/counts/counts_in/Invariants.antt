-- For `counts_in`: the counts so far, and those of the blocks that are left, are the counts of all
-- (loop of src/counts.rt).
use Rattle.std.proofs.Common.{◌≡◌, ◌≤◌, ◌++◌, drop}
use Rattle.block_order.specs.Loud.{loud}
use Rattle.open_order.specs.Counts.{counts_from}
use Rattle.open_order.proofs.counts.counts_in.Given as goal

abbrev pub invariant-loop-block : goal.invariant-loop-block
invariant-loop-block l =
    (l.count ≤ l.block-index)
    × (l.counts.items ++ counts_from (loud l.order) l.counting l.count (drop l.block-index l.inside) ≡ counts_from (loud l.order) l.counting 0 l.inside)
