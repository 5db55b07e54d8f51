-- The blocks so far are those of the program in its order (loop of `stands_by`, src/targets.rt).
use Rattle.std.proofs.Common.{◌≡◌, List, map, take}
use Rattle.block_order.specs.declared.program.ControlBlock.{ControlBlock}
use Rattle.block_order.specs.declared.program.ControlProgram.{ControlProgram}
use Rattle.plain_blocks.specs.Targets.{stand_of, AreNoted}
use Rattle.plain_blocks.proofs.targets.stands_by.Given as goal

abbrev pub invariant-loop-block : goal.invariant-loop-block
invariant-loop-block l = (tape : List ControlProgram) (all : List ControlBlock) → AreNoted tape all l.jumps l.returns → l.stands.items ≡ map (stand_of tape all) (take l.block-index l.own)
