-- The moves of one path in a trace.
-- No other crate cites it: it is for the public law that a trace has the moves of the report
-- (src/laws.rt).
use Rattle.std.specs.Prelude.{if◌then◌else◌, List, [], ◌∷◌}
use Rattle.std.specs.List.{flat_map}
use Rattle.nc_number.specs.Path.{is_same}
use Rattle.nc_number.specs.declared.path.Path.{Path}
use Rattle.nc_outside.specs.declared.lined_move.LinedMove.{LinedMove}
use Rattle.trace_list.specs.TraceText.{TraceLine, Moved}

-- the move that a line of a trace shows, if it is one of this path; else none
abbrev pub move_of : Path → TraceLine → List LinedMove
move_of path (Moved of made) = if is_same path of then made ∷ [] else []
move_of path other = []

-- the moves of a path in a trace, in order
abbrev pub moves_traced : Path → List TraceLine → List LinedMove
moves_traced path lines = flat_map (move_of path) lines
