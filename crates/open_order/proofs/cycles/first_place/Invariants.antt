-- For `first_place`: the first block of the number is that among the blocks that the loop has not passed
-- (src/cycles.rt).
use Rattle.std.proofs.Common.{◌≡◌, drop}
use Rattle.block_order.specs.Order.{first_numbered}
use Rattle.open_order.proofs.cycles.first_place.Given as goal

abbrev pub invariant-loop-block : goal.invariant-loop-block
invariant-loop-block l =
    (l.place ≡ l.block-index)
    × (first_numbered l.listed 0 l.number ≡ first_numbered (drop l.block-index l.listed) l.place l.number)
