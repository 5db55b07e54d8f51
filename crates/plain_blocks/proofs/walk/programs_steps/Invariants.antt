-- What became of the programs so far, with what becomes of the rest, is what becomes of all (loop of
-- `programs_steps`, src/walk.rt).
use Rattle.std.proofs.Common.{◌≡◌, [], drop}
use Rattle.plain_blocks.specs.Walk.{steps_from}
use Rattle.plain_blocks.proofs.walk.programs_steps.Given as goal

abbrev pub invariant-loop-program : goal.invariant-loop-program
invariant-loop-program l =
    steps_from l.rules l.order l.all.items (drop l.program-index l.tape) ≡ steps_from l.rules l.order [] l.tape
