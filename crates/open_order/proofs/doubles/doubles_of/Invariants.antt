-- For `doubles_of`: the blocks that it found, and those among the blocks that are left, are all (loop of
-- src/doubles.rt).
use Rattle.std.proofs.Common.{◌≡◌, ◌++◌, drop}
use Rattle.block_order.specs.Order.{blocks}
use Rattle.open_order.specs.Doubles.{doubles_from}
use Rattle.open_order.proofs.doubles.doubles_of.Given as goal

abbrev pub invariant-loop-block : goal.invariant-loop-block
invariant-loop-block l =
    (l.place ≡ l.block-index)
    × (l.found.items ++ doubles_from (blocks l.order l.program) l.counts l.place (drop l.block-index l.listed)
    ≡ doubles_from (blocks l.order l.program) l.counts 0 (blocks l.order l.program))
