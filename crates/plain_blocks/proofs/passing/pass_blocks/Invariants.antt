-- What is known so far, past the blocks that are left, is what is known behind all (loop of `pass_blocks`, src/passing.rt).
use Rattle.std.proofs.Common.{◌≡◌, drop}
use Rattle.plain_blocks.specs.Passing.{pass_blocks}
use Rattle.plain_blocks.proofs.passing.pass_blocks.Given as goal

abbrev pub invariant-loop-block : goal.invariant-loop-block
invariant-loop-block l = pass_blocks l.dialect l.behind (drop l.block-index l.blocks) ≡ pass_blocks l.dialect l.known l.blocks
