-- The report of a history: for each path its records' moves in order, the number of records, and
-- how the run ended.
use Rattle.std.specs.Prelude.{ℕ, List, ◌++◌, length, codes, decimal}
use Rattle.std.specs.List.{flat_map}
use Rattle.nc_number.specs.declared.path.Path.{Path}
use Rattle.nc_number.specs.declared.path.Path.TheVariants.{One, Two}
use Rattle.nc_outside.specs.declared.lined_move.LinedMove.{LinedMove}
use Rattle.move_text.specs.MoveText.{line_text}
use Rattle.text_pieces.specs.Pieces.{path_name}
use Rattle.run_records.specs.Entries.{Entry}
use Rattle.two_path.specs.Machine.{MachineView}
use Rattle.two_path.specs.Turns.{Tapes}
use Rattle.two_path.specs.Made.{moves_of}
use Rattle.nc_outside.specs.declared.reason.Reason.{Reason}
use Rattle.move_list.specs.EndText.{end_text}

-- the line of a move
abbrev pub lined_text : LinedMove → List ℕ
lined_text made = line_text made.line made.what

-- the lines of moves, in order
abbrev pub lines_text : List LinedMove → List ℕ
lines_text moves = flat_map lined_text moves

-- the head of a path's lines: how many moves it has
unfoldable pub head_text : Path → ℕ → List ℕ
head_text path count = path_name path ++ codes " moves " ++ decimal count ++ codes "\n"

-- the lines of a path: how many moves it has, and a line for each
unfoldable pub path_text : Path → List LinedMove → List ℕ
path_text path moves = head_text path (length moves) ++ flat_map lined_text moves

-- the report of a history from a machine on
unfoldable pub report_text : Tapes → MachineView → List Entry → Reason → List ℕ
report_text tapes m entries reason =
    path_text One (moves_of tapes m One entries)
    ++ (path_text Two (moves_of tapes m Two entries) ++ end_text (length entries) reason)
