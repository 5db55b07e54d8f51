-- The text so far, and that of the blocks that are left, is that of all (loop of `blocks_text`, src/block_text.rt).
use Rattle.std.proofs.Common.{◌≡◌, ◌++◌, take, drop}
use Rattle.tape_plain.specs.BlockText.{blocks_text}
use Rattle.tape_plain.proofs.block_text.blocks_text.Given as goal

abbrev pub invariant-loop-block : goal.invariant-loop-block
invariant-loop-block l =
    l.out.items ++ blocks_text l.line l.number l.left (drop l.block-index l.blocks) ≡ blocks_text l.line l.fn.sequence l.fn.comment l.blocks
