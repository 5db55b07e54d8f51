-- For `blocks_fault`, which looks for the first fault of a contour of a program: it is that of the
-- blocks that the loop has not passed (loop of src/cycles.rt).
use Rattle.std.proofs.Common.{◌≡◌, drop}
use Rattle.block_order.specs.Loud.{loud}
use Rattle.block_order.specs.Order.{blocks}
use Rattle.open_order.specs.Contours.{blocks_fault}
use Rattle.open_order.proofs.cycles.blocks_fault.Given as goal

abbrev pub invariant-loop-block : goal.invariant-loop-block
invariant-loop-block l =
    blocks_fault (loud l.order) (blocks l.order l.program) l.listed
    ≡ blocks_fault (loud l.order) (blocks l.order l.program) (drop l.block-index l.listed)
