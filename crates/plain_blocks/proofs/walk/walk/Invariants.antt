-- What became of the blocks so far, with what becomes of the rest, is what becomes of all (loop of `walk`, src/walk.rt).
use Rattle.std.proofs.Common.{◌≡◌, [], drop}
use Rattle.plain_blocks.specs.Walk.{walk_from}
use Rattle.plain_blocks.proofs.walk.walk.Given as goal

abbrev pub invariant-loop-place : goal.invariant-loop-place
invariant-loop-place l = walk_from l.rules l.blocks l.stands l.known l.steps.items l.place (drop l.place l.blocks) ≡ walk_from l.rules l.blocks l.stands l.rules.anywhere [] 0 l.blocks
