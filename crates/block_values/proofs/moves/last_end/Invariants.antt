-- For `last_end`, which looks for the end of the last move that goes somewhere (loop of
-- src/moves.rt).
use Rattle.std.proofs.Common.{◌≡◌, drop}
use Rattle.block_values.specs.Moves.{last_end}
use Rattle.block_values.proofs.moves.last_end.Given as goal

-- the moves that are left lead from the end so far to the end of all
abbrev pub invariant-loop-step : goal.invariant-loop-step
invariant-loop-step l = last_end l.end (drop l.step-index l.moves) ≡ last_end l.fn.at l.moves
