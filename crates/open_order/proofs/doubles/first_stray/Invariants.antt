-- For `first_stray`: the first block that strays is that among the blocks that the loop has not passed
-- (src/doubles.rt).
use Rattle.std.proofs.Common.{◌≡◌, drop}
use Rattle.block_order.specs.Order.{blocks}
use Rattle.open_order.specs.Doubles.{strays_from}
use Rattle.open_order.proofs.doubles.first_stray.Given as goal

abbrev pub invariant-loop-block : goal.invariant-loop-block
invariant-loop-block l =
    (l.place ≡ l.block-index)
    × (strays_from l.order l.program l.counts l.doubles 0 (blocks l.order l.program)
    ≡ strays_from l.order l.program l.counts l.doubles l.place (drop l.block-index l.listed))
