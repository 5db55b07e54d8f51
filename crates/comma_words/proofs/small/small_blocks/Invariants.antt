-- The blocks so far are those that were looked at, with small letters (loop of `small_blocks`, src/small.rt).
use Rattle.std.proofs.Common.{◌≡◌, map, take}
use Rattle.comma_words.specs.Small.{small_block}
use Rattle.comma_words.proofs.small.small_blocks.Given as goal

abbrev pub invariant-loop-block : goal.invariant-loop-block
invariant-loop-block l = l.small.items ≡ map (small_block l.places) (take l.block-index l.blocks)
