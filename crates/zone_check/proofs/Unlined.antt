-- The moves of a turn without the line of its block. Folded.antt and TurnsLead.antt rest on it.
use Rattle.std.proofs.Common.{◌≡◌, ℕ, List, [], ◌∷◌, map, refl, ap}
use Rattle.nc_moves.specs.declared.motion.Move.{Move}
use Rattle.nc_outside.specs.Lined.{lined_move}
use Rattle.two_path.specs.declared.turn.Turn.{Turn}
use Rattle.two_path.specs.declared.turn.Turn.TheVariants.{Read, Did, Arrived, Met, Ended, Waiting, Finished, Alarm, Halted, Edited}
use Rattle.two_path.specs.Made.{moves_of_turn, moves_made_in}
use Rattle.zone_check.specs.Segments.{unlined}

-- the moves of a block without its line
pub unlined_block : (line : ℕ) (moves : List Move) → unlined (map (lined_move line) moves) ≡ moves
unlined_block line [] = refl
unlined_block line (move ∷ moves) = ap (λ rest. move ∷ rest) (unlined_block line moves)

-- the moves of a turn, without their lines, are those that it answers
pub unlined_turn : (turn : Turn) → unlined (moves_made_in turn) ≡ moves_of_turn turn
unlined_turn (Did moves) = unlined_block moves.line moves.list
unlined_turn (Ended moves) = unlined_block moves.line moves.list
unlined_turn (Read variable stamp) = refl
unlined_turn (Arrived code) = refl
unlined_turn (Met code) = refl
unlined_turn (Waiting code) = refl
unlined_turn Finished = refl
unlined_turn (Alarm alarm) = refl
unlined_turn (Halted alarm) = refl
unlined_turn Edited = refl
