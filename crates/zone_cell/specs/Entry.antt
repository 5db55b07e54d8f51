-- What a line of a text of zones says. A line that is none of these is not allowed. The functions
-- of src/named.rt answer these definitions. No other crate cites it; the zones of a text rest on it
-- (Zones).
use Rattle.std.specs.Prelude.{ℕ, Bool, not, ◌&&◌, List, [], ◌∷◌, Option, Some, None, codes, pos, int_lt, if◌then◌else◌}
use Rattle.std.specs.Str.{bytes_eq}
use Rattle.nc_number.specs.declared.point.Point.{Point}
use Rattle.nc_number.specs.Options.{◌>>=◌}
use Rattle.nc_number.specs.Position.{IsPosition}
use Rattle.field_lines.specs.Field.{path_of}
use Rattle.field_lines.specs.Length.{point_of}
use Rattle.zone_cell.specs.declared.entry.Entry.{Entry}
use Rattle.zone_cell.specs.declared.entry.Entry.TheVariants as says

-- what the values of `frame` say: a path, and where its origin lies in the cell
unfoldable pub frame_of : List (List ℕ) → Option Entry
frame_of (path ∷ x ∷ z ∷ []) = do
  p ← path_of path
  to ← point_of x z
  Some (says.Frame p to)
frame_of _ = None

-- what the value of `mirror` says: a path that sees X from the other side
unfoldable pub mirror_of : List (List ℕ) → Option Entry
mirror_of (path ∷ []) = do
  p ← path_of path
  Some (says.Mirror p)
mirror_of _ = None

-- neither length is below 0
abbrev pub is_gap : Point → Bool
is_gap gap = not (int_lt gap.x (pos 0)) && not (int_lt gap.z (pos 0))

-- what the values of `gap` say: how far apart the paths are to stay, in X and in Z
unfoldable pub gap_of : List (List ℕ) → Option Entry
gap_of (x ∷ z ∷ []) = do
  gap ← point_of x z
  if is_gap gap then Some (says.Gap gap) else None
gap_of _ = None

-- what a name and its values say; no other name than these three is allowed
unfoldable pub named_of : List ℕ → List (List ℕ) → Option Entry
named_of name values =
    if bytes_eq name (codes "frame") then frame_of values
    else (if bytes_eq name (codes "mirror") then mirror_of values
    else (if bytes_eq name (codes "gap") then gap_of values
    else None))

-- what the fields of a line say: a name and its values; a line without fields says nothing
unfoldable pub fields_say : List (List ℕ) → Option Entry
fields_say [] = Some says.Nothing
fields_say (name ∷ values) = named_of name values

-- what a line says is in range: the point of a frame and the gap are positions
abbrev pub IsAllowed : Entry → Type 0
IsAllowed says.Nothing = Unit {0}
IsAllowed (says.Frame path to) = IsPosition to
IsAllowed (says.Mirror path) = Unit {0}
IsAllowed (says.Gap gap) = IsPosition gap
