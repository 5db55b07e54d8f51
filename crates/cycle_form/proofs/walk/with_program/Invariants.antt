-- The parts so far and those of the blocks ahead are those of the whole program, and all are sound
-- (loop of `with_program`, src/walk.rt).
use Rattle.std.proofs.Common.{◌≡◌, [], All, length, take, drop}
use Rattle.cycle_form.specs.Parts.{IsSoundPart}
use Rattle.cycle_form.specs.Walk.{parts_from}
use Rattle.cycle_form.proofs.walk.with_program.Given as goal

abbrev pub invariant-loop-i : goal.invariant-loop-i
invariant-loop-i l = record {
  rest : parts_from l.marks l.from l.skip (take l.i l.blocks) l.parts.items (drop l.i l.blocks)
      ≡ parts_from l.marks (length l.fn.parts.items) 0 [] l.fn.parts.items l.blocks;
  sound : All IsSoundPart l.parts.items;
}
