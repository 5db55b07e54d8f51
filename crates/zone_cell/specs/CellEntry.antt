-- What a line of a text of zones by moves says. A line that is none of these is not allowed. The
-- functions of src/cell_line.rt answer these definitions.
use Rattle.std.specs.Prelude.{ℕ, Bool, false, not, ◌&&◌, List, [], ◌∷◌, Option, Some, None, codes, int_lt, if◌then◌else◌}
use Rattle.std.specs.List.{list_any}
use Rattle.std.specs.Str.{bytes_eq}
use Rattle.std.specs.Str.Lines.{lines}
use Rattle.nc_number.specs.declared.point.Point.{Point}
use Rattle.nc_number.specs.Options.{◌>>=◌}
use Rattle.field_lines.specs.Field.{number_in, path_of}
use Rattle.field_lines.specs.Length.{point_of}
use Rattle.field_lines.specs.Line.{line_fields}
use Rattle.zone_area.specs.declared.area.Area.{Area}
use Rattle.zone_moves.specs.declared.fixed.Keeps.{Keeps}
use Rattle.zone_moves.specs.declared.fixed.Keeps.TheVariants.{Whole, Rapids}
use Rattle.zone_moves.specs.Bodies.{IsBody, IsBodyArea}
use Rattle.zone_cell.specs.declared.entry.Entry.{Entry}
use Rattle.zone_cell.specs.declared.entry.Entry.TheVariants as entry
use Rattle.zone_cell.specs.declared.cell_entry.CellEntry.{CellEntry}
use Rattle.zone_cell.specs.declared.cell_entry.CellEntry.TheVariants as says
use Rattle.zone_cell.specs.Entry.{named_of, IsAllowed}

-- the fields are the two words `by moves`
unfoldable pub are_by_moves : List (List ℕ) → Bool
are_by_moves (name ∷ what ∷ []) = bytes_eq name (codes "by") && bytes_eq what (codes "moves")
are_by_moves _ = false

-- the low corner of a box is not beyond its high one
abbrev pub is_upright : Point → Point → Bool
is_upright low high = not (int_lt high.x low.x) && not (int_lt high.z low.z)

-- the box of two fields for X and two for Z, the lesser first
unfoldable pub box_of : List ℕ → List ℕ → List ℕ → List ℕ → Option Area
box_of x x' z z' = do
  low ← point_of x z
  high ← point_of x' z'
  if is_upright low high then Some (record { low = low; high = high }) else None

-- what the values of `tool` say: the box of a tool of a path round the programmed point
unfoldable pub tool_of : List (List ℕ) → Option CellEntry
tool_of (path ∷ tool ∷ x ∷ x' ∷ z ∷ z' ∷ []) = do
  p ← path_of path
  t ← number_in 0 99 tool
  area ← box_of x x' z z'
  Some (says.Tool (record { path = p; tool = t; area = area }))
tool_of _ = None

-- which moves a box bars, by what stands behind it: nothing, or `cut`
unfoldable pub keeps_of : List (List ℕ) → Option Keeps
keeps_of [] = Some Whole
keeps_of (word ∷ []) = if bytes_eq word (codes "cut") then Some Rapids else None
keeps_of _ = None

-- what the values of `fixed` say: a box in the cell that the bodies of a path must keep off
unfoldable pub fixed_of : List (List ℕ) → Option CellEntry
fixed_of (path ∷ x ∷ x' ∷ z ∷ z' ∷ words) = do
  p ← path_of path
  area ← box_of x x' z z'
  keeps ← keeps_of words
  Some (says.Fixed p area keeps)
fixed_of _ = None

-- what the values of `mirror` say, if Z is mirrored: a path
unfoldable pub mirror_z_of : List (List ℕ) → Option CellEntry
mirror_z_of (path ∷ axis ∷ []) = do
  p ← path_of path
  if bytes_eq axis (codes "Z") then Some (says.MirrorZ p) else None
mirror_z_of _ = None

-- an entry of a text by areas, as one of a text by moves
abbrev pub plain_of : Option Entry → Option CellEntry
plain_of (Some entry) = Some (says.Plain entry)
plain_of None = None

-- what is said, or else what another reading gives
abbrev pub or_else : Option CellEntry → Option CellEntry → Option CellEntry
or_else (Some entry) other = Some entry
or_else None other = other

-- what a name and its values say
unfoldable pub cell_named_of : List ℕ → List (List ℕ) → Option CellEntry
cell_named_of name values =
    if bytes_eq name (codes "tool") then tool_of values
    else (if bytes_eq name (codes "fixed") then fixed_of values
    else (if bytes_eq name (codes "mirror") then or_else (mirror_z_of values) (plain_of (named_of name values))
    else plain_of (named_of name values)))

-- what fields say that are not `by moves`: a name and its values; a line without fields says nothing
unfoldable pub named_fields_say : List (List ℕ) → Option CellEntry
named_fields_say [] = Some (says.Plain entry.Nothing)
named_fields_say (name ∷ values) = cell_named_of name values

-- what the fields of a line of a text by moves say
unfoldable pub cell_fields_say : List (List ℕ) → Option CellEntry
cell_fields_say fields = if are_by_moves fields then Some says.ByMoves else named_fields_say fields

-- what a line says is in range
abbrev pub IsCellAllowed : CellEntry → Type 0
IsCellAllowed (says.Plain entry) = IsAllowed entry
IsCellAllowed says.ByMoves = Unit {0}
IsCellAllowed (says.MirrorZ path) = Unit {0}
IsCellAllowed (says.Tool body) = IsBody body
IsCellAllowed (says.Fixed path area keeps) = IsBodyArea area

-- the fields of a line, if it has any, are `by moves`
abbrev pub fields_are_by_moves : Option (List (List ℕ)) → Bool
fields_are_by_moves (Some fields) = are_by_moves fields
fields_are_by_moves None = false

-- the text has a line `by moves`
unfoldable pub is_by_moves : List ℕ → Bool
is_by_moves text = list_any (λ line. fields_are_by_moves (line_fields line)) (lines text)
