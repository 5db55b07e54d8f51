-- Which moves a history made: of each of its records the turn, and of a turn its moves, each with
-- the line of its block. What the turrets get is said by these words.
use Rattle.std.specs.Prelude.{if◌then◌else◌, List, [], ◌∷◌}
use Rattle.std.specs.List.{flat_map}
use Rattle.nc_number.specs.Path.{is_same}
use Rattle.nc_number.specs.declared.path.Path.{Path}
use Rattle.nc_moves.specs.declared.motion.Move.{Move}
use Rattle.nc_outside.specs.declared.lined_move.LinedMove.{LinedMove}
use Rattle.nc_outside.specs.Lined.{lined_moves}
use Rattle.run_records.specs.Entries.{Entry}
use Rattle.two_path.specs.declared.turn.Turn.{Turn}
use Rattle.two_path.specs.declared.turn.Turn.TheVariants.{Read, Did, Arrived, Met, Ended, Waiting, Finished, Alarm, Halted, Edited}
use Rattle.two_path.specs.declared.turn.TurnAnswer.{TurnAnswer}
use Rattle.two_path.specs.declared.turn.TurnAnswer.TheVariants as answer
use Rattle.two_path.specs.Machine.{MachineView}
use Rattle.two_path.specs.Turns.{Tapes, moves_at}
use Rattle.two_path.specs.Histories.{behind_entry}
use Rattle.two_path.specs.Again.{turn_of_entry}

-- the moves of a turn: those of the block that it did, or with which its path ended
abbrev pub moves_of_turn : Turn → List Move
moves_of_turn (Did moves) = moves.list
moves_of_turn (Ended moves) = moves.list
moves_of_turn (Read variable stamp) = []
moves_of_turn (Arrived code) = []
moves_of_turn (Met code) = []
moves_of_turn (Waiting code) = []
moves_of_turn Finished = []
moves_of_turn (Alarm alarm) = []
moves_of_turn (Halted alarm) = []
moves_of_turn Edited = []

-- the answer of a turn without its moves
abbrev pub answer_of : Turn → TurnAnswer
answer_of (Did moves) = answer.Did moves.line
answer_of (Ended moves) = answer.Ended moves.line
answer_of (Read variable stamp) = answer.Read variable stamp
answer_of (Arrived code) = answer.Arrived code
answer_of (Met code) = answer.Met code
answer_of (Waiting code) = answer.Waiting code
answer_of Finished = answer.Finished
answer_of (Alarm alarm) = answer.Alarm alarm
answer_of (Halted alarm) = answer.Halted alarm
answer_of Edited = answer.Edited

-- a turn, from its answer without moves and these moves; an answer of no moves drops them
abbrev pub turn_with : TurnAnswer → List Move → Turn
turn_with (answer.Did line) moves = Did (moves_at line moves)
turn_with (answer.Ended line) moves = Ended (moves_at line moves)
turn_with (answer.Read variable stamp) moves = Read variable stamp
turn_with (answer.Arrived code) moves = Arrived code
turn_with (answer.Met code) moves = Met code
turn_with (answer.Waiting code) moves = Waiting code
turn_with answer.Finished moves = Finished
turn_with (answer.Alarm alarm) moves = Alarm alarm
turn_with (answer.Halted alarm) moves = Halted alarm
turn_with answer.Edited moves = Edited

-- the moves of a turn, each with the line of its block
abbrev pub moves_made_in : Turn → List LinedMove
moves_made_in (Did moves) = lined_moves moves
moves_made_in (Ended moves) = lined_moves moves
moves_made_in (Read variable stamp) = []
moves_made_in (Arrived code) = []
moves_made_in (Met code) = []
moves_made_in (Waiting code) = []
moves_made_in Finished = []
moves_made_in (Alarm alarm) = []
moves_made_in (Halted alarm) = []
moves_made_in Edited = []

-- a turn of a history, and whose it was
pub record PathTurn : Type 0 where
  pub path : Path
  pub turn : Turn

-- the turns of the records of a history, in order, from a machine on
unfoldable pub turns_from : Tapes → MachineView → List Entry → List PathTurn
turns_from tapes m [] = []
turns_from tapes m (e ∷ entries) =
    record { path = e.path; turn = turn_of_entry tapes e m } ∷ turns_from tapes (behind_entry tapes e m) entries

-- the moves that a turn adds to those of this path: none if it was the other path's
abbrev pub moves_made_by : Path → PathTurn → List LinedMove
moves_made_by path t = if is_same path t.path then moves_made_in t.turn else []

-- the moves of a path in these turns, in order
unfoldable pub moves_in : Path → List PathTurn → List LinedMove
moves_in path turns = flat_map (moves_made_by path) turns

-- the moves of a path's records, in order
abbrev pub moves_of : Tapes → MachineView → Path → List Entry → List LinedMove
moves_of tapes m path entries = moves_in path (turns_from tapes m entries)
