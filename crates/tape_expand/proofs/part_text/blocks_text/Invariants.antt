-- The text so far is the lines of the blocks so far (loop of `blocks_text`, src/part_text.rt).
use Rattle.std.proofs.Common.{◌≡◌, take}
use Rattle.tape_expand.specs.BlockText.{blocks_text}
use Rattle.tape_expand.proofs.part_text.blocks_text.Given as goal

abbrev pub invariant-loop-block : goal.invariant-loop-block
invariant-loop-block l = l.out.items ≡ blocks_text l.feed (take l.block-index l.blocks)
