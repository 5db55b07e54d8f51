-- The count so far, with what is left, is that of all (loop of `steps_size`, src/draft.rt).
use Rattle.std.proofs.Common.{◌≡◌, ◌++◌, take, drop}
use Rattle.tape_plain.specs.Draft.{steps_size}
use Rattle.tape_plain.proofs.draft.steps_size.Given as goal

abbrev pub invariant-loop-step : goal.invariant-loop-step
invariant-loop-step l = steps_size l.size (drop l.step-index l.steps) ≡ steps_size l.count l.steps
