-- The blocks of the programs so far, with those of the others, are all (loop of `count_blocks`,
-- src/expand.rt).
use Rattle.std.proofs.Common.{◌≡◌, ◌+◌, length, drop}
use Rattle.nc_text.specs.Shape.{blocks_in}
use Rattle.tape_expand.proofs.expand.count_blocks.Given as goal

abbrev pub invariant-loop-program : goal.invariant-loop-program
invariant-loop-program l = l.count + length (blocks_in (drop l.program-index l.tape)) ≡ length (blocks_in l.tape)
