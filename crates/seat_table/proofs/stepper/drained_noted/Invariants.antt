-- The call that is noted in the pass of the path is that of the drain (`drained_noted`,
-- src/stepper.rt).
use Rattle.std.proofs.Common.{[], ◌∷◌}
use Rattle.seat_table.proofs.stepper.drained_noted.Given as goal

-- the call that is noted
abbrev pub ghosts-note : goal.ghosts-note
ghosts-note g a = record { calls = a.call ∷ [] }
