-- The lines of a trace, and how each is printed. Trace says which lines a history has. `trace_text`
-- of Trace is made of these lines.
use Rattle.std.specs.Prelude.{ℕ, Bool, if◌then◌else◌, List, ◌++◌, codes, decimal}
use Rattle.std.specs.List.{flat_map}
use Rattle.nc_number.specs.declared.path.Path.{Path}
use Rattle.nc_number.specs.declared.point.Point.{Point}
use Rattle.nc_number.specs.Path.{number_of}
use Rattle.nc_moves.specs.declared.alarm.Alarm.{Alarm}
use Rattle.nc_outside.specs.declared.lined_move.LinedMove.{LinedMove}
use Rattle.text_pieces.specs.Pieces.{code_text, text_with_number, point_text}
use Rattle.move_list.specs.EndText.{cause_text}
use Rattle.move_list.specs.Report.{lined_text}

-- An event of a run. Lines are lines of the path's tape; line 0 is before its first block.
pub data TraceLine : Type 0 where
  -- where the turret of a path begins, in machine coordinates
  At : (path : Path) (at : Point) → TraceLine
  -- the reference position of a path, in machine coordinates
  Home : (path : Path) (at : Point) → TraceLine
  -- machine minus work coordinates of a path, from this line on
  Shift : (path : Path) (line : ℕ) (by : Point) → TraceLine
  -- whether the spindle of a path keeps a surface speed, from this line on
  Spindle : (path : Path) (line : ℕ) (surface : Bool) → TraceLine
  -- a move of a path
  Moved : (path : Path) (made : LinedMove) → TraceLine
  -- a path comes to its wait of this code
  Wait : (path : Path) (line : ℕ) (code : ℕ) → TraceLine
  -- both paths meet for the first, second .. time, at waits of this code on these lines of path 1
  -- and path 2
  Met : (number : ℕ) (code : ℕ) (one : ℕ) (two : ℕ) → TraceLine
  -- a path raised this alarm
  Raised : (alarm : Alarm) → TraceLine
  -- a path has ended
  Ended : (path : Path) (line : ℕ) → TraceLine

-- how the line of a move begins: the number of the path and a blank
unfoldable pub path_text : Path → List ℕ
path_text path = decimal (number_of path) ++ codes " "

-- how the line of an event begins: the number of the path, and a line of its tape
unfoldable pub event_text : Path → ℕ → List ℕ
event_text path line = decimal (number_of path) ++ codes " " ++ decimal line

-- a line of an event with a word and a point
unfoldable pub point_line : Path → ℕ → List ℕ → Point → List ℕ
point_line path line word at = event_text path line ++ word ++ point_text at ++ codes "\n"

-- how the line of a meeting begins: its number and its code
unfoldable pub met_text : ℕ → ℕ → List ℕ
met_text number code = codes "met " ++ decimal number ++ codes " M" ++ code_text code

-- the lines of both waits of a meeting
unfoldable pub waits_text : ℕ → ℕ → List ℕ
waits_text one two =
    text_with_number (codes " path 1 line ") one ++ text_with_number (codes " path 2 line ") two ++ codes "\n"

-- the line of an event, as it is printed
unfoldable pub trace_line_text : TraceLine → List ℕ
trace_line_text (At path at) = point_line path 0 (codes " at") at
trace_line_text (Home path at) = point_line path 0 (codes " home") at
trace_line_text (Shift path line by) = point_line path line (codes " shift") by
trace_line_text (Spindle path line surface) =
    event_text path line ++ (if surface then codes " spindle G96\n" else codes " spindle G97\n")
trace_line_text (Moved path made) = path_text path ++ lined_text made
trace_line_text (Wait path line code) = event_text path line ++ codes " wait M" ++ code_text code ++ codes "\n"
trace_line_text (Met number code one two) = met_text number code ++ waits_text one two
trace_line_text (Raised alarm) = event_text alarm.path alarm.line ++ codes " alarm " ++ cause_text alarm ++ codes "\n"
trace_line_text (Ended path line) = event_text path line ++ codes " end\n"

-- the lines of events, in order
abbrev pub lines_text : List TraceLine → List ℕ
lines_text lines = flat_map trace_line_text lines

-- the first line of a trace, with the number of its form, which page/reading.js asks for
unfoldable pub head_text : List ℕ
head_text = codes "trace 2\n"
