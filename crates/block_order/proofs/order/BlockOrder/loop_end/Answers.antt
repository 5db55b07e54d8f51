-- The tables tell the END of a loop, and there is a number for the block behind it, since a program
-- has at most 20,000 blocks. For the contract of `loop_end` (src/order.rt).
use Rattle.std.proofs.Common.{◌≡◌, ℕ, ◌<◌, ◌≤◌, List, length, Option, Some, None, IfSome, refl, sym, ap, arith}
use Rattle.block_order.specs.declared.program.ControlBlock.{ControlBlock}
use Rattle.block_order.specs.Order.{blocks, end_of_loop}
use Rattle.block_order.proofs.Opened.{close_within}
use Rattle.block_order.proofs.order.BlockOrder.loop_end.Goals as goal

-- An END is one of at most 20,000 blocks, so its number is far below 32 bits.
end_behind : (bs : List ControlBlock) (head : ℕ) (end : Option ℕ) → length bs ≤ 20000 → end ≡ end_of_loop bs head
    → IfSome end (λ close. close < 4294967295)
end_behind bs head None few ends = tt
end_behind bs head (Some close) few ends = omega (arith, few, close_within bs head close (sym ends))

pub returns-in-Some-clause-ends : goal.returns-in-Some-clause-ends
returns-in-Some-clause-ends c = c.end_of.ensures (blocks c.args.self.now c.args.program) c.in-Some.ensures.some.loops

pub returns-in-None-clause-ends : goal.returns-in-None-clause-ends
returns-in-None-clause-ends c = sym (ap (λ bs. end_of_loop bs c.args.head) (c.in-None.ensures.none refl))

pub returns-in-Some-clause-behind : goal.returns-in-Some-clause-behind
returns-in-Some-clause-behind c =
    let bs = blocks c.args.self.now c.args.program in
    let own = c.in-Some.ensures.some.loops in
    end_behind bs c.args.head c.end_of.result own.few (c.end_of.ensures bs own)
