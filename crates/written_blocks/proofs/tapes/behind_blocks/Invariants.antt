-- The place behind the blocks so far, past those that are left, is the place behind all (loop of
-- `behind_blocks`, src/tapes.rt).
use Rattle.std.proofs.Common.{◌≡◌, drop}
use Rattle.written_blocks.specs.Tapes.{behind_blocks}
use Rattle.written_blocks.proofs.tapes.behind_blocks.Given as goal

abbrev pub invariant-loop-block : goal.invariant-loop-block
invariant-loop-block l =
    behind_blocks l.again l.at l.number (drop l.block-index l.blocks) ≡ behind_blocks l.again l.start l.fn.sequence l.blocks
