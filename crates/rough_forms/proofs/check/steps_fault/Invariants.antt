-- No piece so far is at fault, and those that are left decide (loop of `steps_fault`, src/check.rt).
use Rattle.std.proofs.Common.{◌≡◌, drop}
use Rattle.arc_contour.specs.Bounds.{IsPlaced}
use Rattle.rough_forms.specs.Check.{steps_fault}
use Rattle.rough_forms.proofs.check.steps_fault.Given as goal

abbrev pub invariant-loop-piece : goal.invariant-loop-piece
invariant-loop-piece l = record {
  rest : steps_fault l.way l.from (drop l.piece-index l.pieces) ≡ steps_fault l.way l.first l.pieces;
  near : IsPlaced l.from;
}
