-- The call that is noted in the pass of a drive is the one that was handed in (`call_noted`,
-- src/stepper.rt).
use Rattle.std.proofs.Common.{[], ◌∷◌}
use Rattle.seat_table.proofs.stepper.call_noted.Given as goal

-- the call that is noted
abbrev pub ghosts-note_halter : goal.ghosts-note_halter
ghosts-note_halter g a = record { calls = a.call ∷ [] }
