-- The blocks so far are those of the program as far as their order goes (loop of `order_blocks`, src/order.rt).
use Rattle.std.proofs.Common.{◌≡◌, map, take}
use Rattle.plain_blocks.specs.Order.{order_block}
use Rattle.plain_blocks.proofs.order.order_blocks.Given as goal

abbrev pub invariant-loop-block : goal.invariant-loop-block
invariant-loop-block l = l.order.items ≡ map (order_block l.dialect) (take l.block-index l.blocks)
