-- The call that is noted in the pass of the path is that of the step, with its answer
-- (`step_noted`, src/stepper.rt).
use Rattle.std.proofs.Common.{[], ◌∷◌}
use Rattle.nc_outside.specs.declared.stepper.Call.TheVariants.{Step}
use Rattle.seat_table.proofs.stepper.step_noted.Given as goal

-- the call that is noted
abbrev pub ghosts-note_step : goal.ghosts-note_step
ghosts-note_step g a = record { calls = Step a.path a.answer.now ∷ [] }
