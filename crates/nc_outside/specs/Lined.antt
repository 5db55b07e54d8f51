-- The moves of a block, each with the line of the block: the form in which turrets get moves and
-- reports and traces list them.
use Rattle.std.specs.Prelude.{ℕ, List, map}
use Rattle.nc_moves.specs.declared.motion.Move.{Move}
use Rattle.nc_moves.specs.declared.motion.Moves.{Moves}
use Rattle.nc_outside.specs.declared.lined_move.LinedMove.{LinedMove}

-- a move with a line
abbrev pub lined_move : ℕ → Move → LinedMove
lined_move line what = record { line = line; what = what }

-- each move of a block with its line
abbrev pub lined_moves : Moves → List LinedMove
lined_moves moves = map (lined_move moves.line) moves.list
