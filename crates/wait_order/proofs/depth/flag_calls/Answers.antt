-- One block more is gone through, and the flags are those from before and those of what the blocks
-- so far call. For the contract of `flag_calls` (src/depth.rt).
use Rattle.std.proofs.Common.{◌≡◌, length, None, ◌∙◌, arith}
use Rattle.block_order.specs.declared.control.Control.TheVariants.{Next}
use Rattle.block_order.specs.ProgramPlaces.{is_flagged}
use Rattle.wait_order.proofs.Called.{flags_more}
use Rattle.wait_order.proofs.depth.flag_calls.Goals as goal

pub loop-block-preserved : goal.loop-block-preserved
loop-block-preserved c tape known count q =
    flags_more tape c.args.blocks.now c.loop-block.block-index q (record { line = 0; sequence = None; control = Next })
    (is_flagged tape c.args.flags.now q) (is_flagged tape c.loop-block.flags q) (is_flagged tape c.flag_called.new.flags q) (omega arith)
    (c.loop-block.invariant tape known count q)
    (c.flag_called.ensures tape known (let same : length c.loop-block.flags ≡ length c.args.flags.now = omega arith in same ∙ count) q)
