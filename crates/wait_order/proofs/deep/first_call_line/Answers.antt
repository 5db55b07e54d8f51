-- The first block that calls a loud program gives its line; after all blocks there is none. A loud
-- program has a wait or an end, or calls one that has. For the contract of `first_call_line`
-- (src/deep.rt).
use Rattle.std.proofs.Common.{None, arith}
use Rattle.block_order.specs.declared.control.Control.TheVariants.{Next}
use Rattle.wait_order.proofs.Deepest.{call_here, none_more, call_nowhere}
use Rattle.wait_order.proofs.deep.first_call_line.Goals as goal

pub returns-then-is_loud_call : goal.returns-then-is_loud_call
returns-then-is_loud_call c tape known rising =
    call_here tape c.args.blocks.now c.loop-block.block-index (record { line = 0; sequence = None; control = Next }) (omega arith) rising
    ((c.is_loud_call.ensures tape known).0 c.if-is_loud_call.true) (c.loop-block.invariant tape known)

pub loop-block-preserved : goal.loop-block-preserved
loop-block-preserved c tape known =
    none_more tape c.args.blocks.now c.loop-block.block-index (record { line = 0; sequence = None; control = Next })
    c.is_loud_call.result (omega arith) (c.is_loud_call.ensures tape known) c.if-is_loud_call.false (c.loop-block.invariant tape known)

pub returns : goal.returns
returns c tape known rising =
    call_nowhere tape c.args.blocks.now c.loop-block.block-index (omega arith) (c.loop-block.invariant tape known)
