-- The offsets that the paths begin with: their ranges, and a list with one at most for each path,
-- kind and number.
use Rattle.std.specs.Prelude.{ℕ, Bool, true, false, not, ◌&&◌, ◌==◌, ◌≤◌, List, [], ◌∷◌, ◌++◌, filter}
use Rattle.cell_settings.specs.declared.preset.Preset.{Preset}
use Rattle.cell_settings.specs.declared.preset.PresetKind.{PresetKind}
use Rattle.cell_settings.specs.declared.preset.PresetKind.TheVariants.{Work, Geometry, Wear}
use Rattle.nc_number.specs.declared.point.TheConstants.{TOOL_OFFSETS}
use Rattle.nc_number.specs.Path.{is_same}
use Rattle.nc_number.specs.Position.{IsPosition}

-- the two kinds are one and the same
abbrev pub is_kind : PresetKind → PresetKind → Bool
is_kind Work Work = true
is_kind Geometry Geometry = true
is_kind Wear Wear = true
is_kind _ _ = false

-- the two offsets are for the same path, kind and number
abbrev pub is_same_place : Preset → Preset → Bool
is_same_place a b = (is_same a.path b.path && is_kind a.kind b.kind) && a.number == b.number

-- the offsets of the list without the one for this path, kind and number
abbrev pub without_place : Preset → List Preset → List Preset
without_place place presets = filter (λ other. not (is_same_place other place)) presets

-- the offsets with one more at the end, instead of the one for its path, kind and number
abbrev pub with_preset : Preset → List Preset → List Preset
with_preset preset presets = without_place preset presets ++ preset ∷ []

-- the least number of a kind: 0 for work offsets, 1 for a tool's
abbrev pub least_number : PresetKind → ℕ
least_number Work = 0
least_number Geometry = 1
least_number Wear = 1

-- the greatest number of a kind: 6 for work offsets, 64 for a tool's
abbrev pub greatest_number : PresetKind → ℕ
greatest_number Work = 6
greatest_number Geometry = TOOL_OFFSETS
greatest_number Wear = TOOL_OFFSETS

-- the offset's number is one of its kind, and its point may be a position
pub record IsPreset (preset : Preset) : Type 0 where
  -- the number is no less than its kind has
  pub least : least_number preset.kind ≤ preset.number
  -- the number is no greater than its kind has
  pub greatest : preset.number ≤ greatest_number preset.kind
  -- the point may be a position
  pub travel : IsPosition preset.to
