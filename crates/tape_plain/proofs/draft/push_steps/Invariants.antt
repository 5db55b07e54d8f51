-- The edits so far are those of the steps so far (loop of `push_steps`, src/draft.rt).
use Rattle.std.proofs.Common.{◌≡◌, ◌++◌, take, drop}
use Rattle.std.specs.List.{flat_map}
use Rattle.tape_plain.specs.Draft.{step_edits}
use Rattle.tape_plain.proofs.draft.push_steps.Given as goal

abbrev pub invariant-loop-step : goal.invariant-loop-step
invariant-loop-step l = l.edits.items ≡ l.fn.edits.items ++ flat_map (step_edits l.comments) (take l.step-index l.steps)
