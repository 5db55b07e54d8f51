-- The offset that the name and the values of a line set, in the settings and in a text of edits:
-- src/preset_line.rt reads it.
use Rattle.std.specs.Prelude.{ℕ, ◌-◌, List, [], ◌∷◌, Option, Some, None, codes, if◌then◌else◌}
use Rattle.std.specs.Str.{bytes_eq}
use Rattle.nc_number.specs.Options.{◌>>=◌}
use Rattle.nc_number.specs.declared.point.TheConstants.{TOOL_OFFSETS}
use Rattle.field_lines.specs.Field.{number_in, path_of}
use Rattle.field_lines.specs.Length.{point_of}
use Rattle.cell_settings.specs.declared.preset.Preset.{Preset}
use Rattle.cell_settings.specs.declared.preset.PresetKind.{PresetKind}
use Rattle.cell_settings.specs.declared.preset.PresetKind.TheVariants.{Work, Geometry, Wear}

-- the work offset that a field names: `0` the external one, `54` to `59` those of G54 to G59, which
-- are 1 to 6
unfoldable pub work_number : List ℕ → Option ℕ
work_number text = if bytes_eq text (codes "0") then Some 0 else (do
  n ← number_in 54 59 text
  Some (n - 53))

-- the work offset of a path that the values of `work` set, if they are allowed
unfoldable pub work_of : List (List ℕ) → Option Preset
work_of (path ∷ number ∷ x ∷ z ∷ []) = do
  p ← path_of path
  n ← work_number number
  to ← point_of x z
  Some (record { path = p; kind = Work; number = n; to = to })
work_of _ = None

-- the geometry or wear offset of a path that the values of `tool` or `wear` set, if they are
-- allowed
unfoldable pub tool_of : PresetKind → List (List ℕ) → Option Preset
tool_of kind (path ∷ number ∷ x ∷ z ∷ []) = do
  p ← path_of path
  n ← number_in 1 TOOL_OFFSETS number
  to ← point_of x z
  Some (record { path = p; kind = kind; number = n; to = to })
tool_of kind _ = None

-- the offset that a name and its values set: a work offset of a path, or the geometry or wear of
-- one of its tools
unfoldable pub preset_of : List ℕ → List (List ℕ) → Option Preset
preset_of name values =
    if bytes_eq name (codes "work") then work_of values
    else (if bytes_eq name (codes "tool") then tool_of Geometry values
    else (if bytes_eq name (codes "wear") then tool_of Wear values
    else None))
