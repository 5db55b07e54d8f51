-- What a text of zones asks for: zones by areas; or, if it has a line `by moves`, a cell in which
-- moves are judged one by one.
use Rattle.std.specs.Prelude.{ℕ, ◌+◌, true, List, [], ◌∷◌, ◌++◌, length, Result, Ok, Err, if◌then◌else◌}
use Rattle.std.specs.Str.Lines.{lines}
use Rattle.field_lines.specs.Line.{line_says, entries_of, first_refused, unless_refused}
use Rattle.zone_area.specs.declared.frame.Frame.{Frame}
use Rattle.zone_moves.specs.Cells.{empty_cell}
use Rattle.zone_moves.specs.Stretches.{CellView}
use Rattle.zone_cell.specs.declared.entry.Entry.TheVariants as entry
use Rattle.zone_cell.specs.declared.cell_entry.CellEntry.{CellEntry}
use Rattle.zone_cell.specs.declared.cell_entry.CellEntry.TheVariants as says
use Rattle.zone_cell.specs.declared.plan.Plan.{Plan}
use Rattle.zone_cell.specs.declared.plan.Plan.TheVariants.{Areas, Moves}
use Rattle.zone_cell.specs.CellEntry.{cell_fields_say, is_by_moves}
use Rattle.zone_cell.specs.Zones.{ZonesView, shifted_to, facing_frame, with_frame, zones_of}

-- the frame of a path that counts Z from the other side
abbrev pub facing_z_frame : Frame → Frame
facing_z_frame frame = record frame { mirror_z = true }

-- one line more: a frame of a path and a gap take the place of an earlier one, a mirror once said
-- stays, and bodies and boxes are added; boxes are numbered from 1
abbrev pub with_cell_entry : CellView → CellEntry → CellView
with_cell_entry cell (says.Plain entry.Nothing) = cell
with_cell_entry cell (says.Plain (entry.Frame path to)) = record cell { frames = with_frame cell.frames path (shifted_to to) }
with_cell_entry cell (says.Plain (entry.Mirror path)) = record cell { frames = with_frame cell.frames path facing_frame }
with_cell_entry cell (says.Plain (entry.Gap gap)) = record cell { gap = gap }
with_cell_entry cell says.ByMoves = cell
with_cell_entry cell (says.MirrorZ path) = record cell { frames = with_frame cell.frames path facing_z_frame }
with_cell_entry cell (says.Tool body) = record cell { bodies = cell.bodies ++ body ∷ [] }
with_cell_entry cell (says.Fixed path area keeps) =
    record cell { boxes = cell.boxes ++ record { path = path; number = length cell.boxes + 1; area = area; keeps = keeps } ∷ [] }

-- what all lines say together
abbrev pub with_cell_entries : CellView → List CellEntry → CellView
with_cell_entries cell [] = cell
with_cell_entries cell (entry ∷ entries) = with_cell_entries (with_cell_entry cell entry) entries

-- the cell of a text by moves, or its first line that is not allowed, counted from 1
unfoldable pub cell_of : List ℕ → Result CellView ℕ
cell_of text =
    unless_refused (first_refused (line_says cell_fields_say) 1 (lines text))
    (with_cell_entries empty_cell (entries_of (line_says cell_fields_say) (lines text)))

-- zones by areas as a plan
abbrev pub areas_plan : Result ZonesView ℕ → Result Plan ℕ
areas_plan (Ok zones) = Ok (Areas zones)
areas_plan (Err line) = Err line

-- a cell as a plan by moves
abbrev pub moves_plan : Result CellView ℕ → Result Plan ℕ
moves_plan (Ok cell) = Ok (Moves cell)
moves_plan (Err line) = Err line

-- what a text asks for, or its first line that is not allowed
abbrev pub plan_of : List ℕ → Result Plan ℕ
plan_of text = if is_by_moves text then moves_plan (cell_of text) else areas_plan (zones_of text)
