-- The blocks read so far, and the rest as it reads after them, are the program (loop of
-- src/reading.rt).
use Rattle.std.proofs.Common.{◌≡◌, [], drop}
use Rattle.open_order.specs.Basis.{basis}
use Rattle.open_order.specs.Reading.{blocks_from}
use Rattle.open_order.proofs.reading.read_blocks.Given as goal

abbrev pub invariant-loop-block : goal.invariant-loop-block
invariant-loop-block l =
    blocks_from (basis l.reading) [] l.blocks ≡ blocks_from (basis l.reading) l.read.items (drop l.block-index l.blocks)
