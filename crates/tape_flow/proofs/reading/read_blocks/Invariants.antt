-- The blocks that are read, with the rest as it reads after them, are the whole (loop of
-- src/reading.rt).
use Rattle.std.proofs.Common.{◌≡◌, [], map, drop}
use Rattle.block_forms.specs.Blocks.{block_form}
use Rattle.tape_flow.specs.Forms.{blocks_from}
use Rattle.tape_flow.proofs.reading.read_blocks.Given as goal

abbrev pub invariant-loop-block : goal.invariant-loop-block
invariant-loop-block l =
    blocks_from l.dialect [] l.blocks ≡ blocks_from l.dialect (map block_form l.read.items) (drop l.block-index l.blocks)
