-- The segments of a history with the lines of their moves, and what is hit in each. A segment reaches
-- from the beginning or a meeting to the next meeting or the end.
use Rattle.std.specs.Prelude.{ℕ, ◌/◌, List, [], ◌∷◌, ◌++◌, Option, Some, None, map, if◌then◌else◌}
use Rattle.nc_number.specs.declared.path.Path.TheVariants.{One, Two}
use Rattle.nc_number.specs.declared.point.Point.{Point}
use Rattle.nc_outside.specs.declared.lined_move.LinedMove.{LinedMove}
use Rattle.run_records.specs.Entries.{Entry, is_meeting}
use Rattle.two_path.specs.declared.turn.Turn.{Turn}
use Rattle.two_path.specs.declared.turn.Turn.TheVariants.{Read, Did, Arrived, Met, Ended, Waiting, Finished, Alarm, Halted, Edited}
use Rattle.two_path.specs.Machine.{Part, MachineView}
use Rattle.two_path.specs.Turns.{Tapes}
use Rattle.two_path.specs.Histories.{fold}
use Rattle.two_path.specs.Again.{turn_of_entry}
use Rattle.two_path.specs.Made.{moves_of}
use Rattle.zone_moves.specs.Judged.{judged}
use Rattle.zone_moves.specs.Stretches.{CellView, stretches_of}
use Rattle.zone_cell.specs.declared.finding.Finding.{Finding}

-- the tool in force of a path: the first two digits of its last T word
abbrev pub tool_in_force : Part → ℕ
tool_in_force part = part.path.modal.tool / 100

-- what both paths do in a segment: the code of the meeting that it begins with, where each stands
-- then and with which tool, and its moves
pub record Lap : Type 0 where
  -- the code of the meeting; none of the first segment
  pub met : Option ℕ
  -- where path 1 stands when the segment begins
  pub left_at : Point
  -- its tool then
  pub left_tool : ℕ
  -- its moves in the segment
  pub left : List LinedMove
  -- where path 2 stands when the segment begins
  pub right_at : Point
  -- its tool then
  pub right_tool : ℕ
  -- its moves in the segment
  pub right : List LinedMove

-- the segment that begins with this meeting at this machine, and has these records
abbrev pub lap_of : Tapes → Option ℕ → MachineView → List Entry → Lap
lap_of tapes met m entries = record {
  met = met;
  left_at = m.paths.one.path.position;
  left_tool = tool_in_force m.paths.one;
  left = moves_of tapes m One entries;
  right_at = m.paths.two.path.position;
  right_tool = tool_in_force m.paths.two;
  right = moves_of tapes m Two entries;
}

-- the code of a meeting, by the turn of its record
abbrev pub met_code : Turn → Option ℕ
met_code (Met code) = Some code
met_code (Did moves) = None
met_code (Ended moves) = None
met_code (Read variable stamp) = None
met_code (Arrived code) = None
met_code (Waiting code) = None
met_code Finished = None
met_code (Alarm alarm) = None
met_code (Halted alarm) = None
met_code Edited = None

-- The segments of a history, of which the first began with this meeting at this machine and has had
-- these records so far. A meeting ends a segment, and the next begins at the machine behind it.
abbrev pub laps_from : Tapes → Option ℕ → MachineView → List Entry → List Entry → List Lap
laps_from tapes met m so_far [] = lap_of tapes met m so_far ∷ []
laps_from tapes met m so_far (e ∷ entries) =
    if is_meeting e.kind
    then lap_of tapes met m so_far ∷ laps_from tapes (met_code (turn_of_entry tapes e (fold tapes m so_far))) (fold tapes m (so_far ++ e ∷ [])) [] entries
    else laps_from tapes met m (so_far ++ e ∷ []) entries

-- the segments of a history from a machine on
abbrev pub laps_of : Tapes → MachineView → List Entry → List Lap
laps_of tapes m entries = laps_from tapes None m [] entries

-- what is hit in a segment
abbrev pub finding_of : CellView → Lap → Finding
finding_of cell lap = record {
  met = lap.met;
  hit = judged cell (stretches_of cell One lap.left_tool lap.left_at lap.left) (stretches_of cell Two lap.right_tool lap.right_at lap.right);
}

-- what is hit in each segment of a history from a machine on
abbrev pub findings_of_history : Tapes → MachineView → CellView → List Entry → List Finding
findings_of_history tapes m cell entries = map (finding_of cell) (laps_of tapes m entries)
