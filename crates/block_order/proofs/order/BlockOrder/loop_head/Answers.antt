-- The head that the tables tell is the one that the search finds. For the contract of `loop_head`
-- (src/order.rt).
use Rattle.std.proofs.Common.{refl}
use Rattle.block_order.specs.Order.{blocks}
use Rattle.block_order.proofs.Searches.{head_answered, no_head_answered}
use Rattle.block_order.proofs.order.BlockOrder.loop_head.Goals as goal

pub returns-in-Some : goal.returns-in-Some
returns-in-Some c =
    let bs = blocks c.args.self.now c.args.program in
    head_answered bs c.args.close c.head_of.result (c.head_of.ensures bs c.in-Some.ensures.some.loops)

pub returns-in-None : goal.returns-in-None
returns-in-None c = no_head_answered (blocks c.args.self.now c.args.program) c.args.close (c.in-None.ensures.none refl)
