-- The parts so far and those of the programs ahead are those of the tape, and all are sound (loop
-- of `parts_of`, src/walk.rt).
use Rattle.std.proofs.Common.{◌≡◌, [], All, drop}
use Rattle.cycle_form.specs.Parts.{IsSoundPart}
use Rattle.cycle_form.specs.Walk.{parts_behind}
use Rattle.cycle_form.proofs.walk.parts_of.Given as goal

abbrev pub invariant-loop-program : goal.invariant-loop-program
invariant-loop-program l = record {
  rest : parts_behind l.marks l.parts.items (drop l.program-index l.tape) ≡ parts_behind l.marks [] l.tape;
  sound : All IsSoundPart l.parts.items;
}
