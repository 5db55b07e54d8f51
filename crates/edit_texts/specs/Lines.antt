-- What a line of a text of edits says; a line that is none of these is not allowed. src/named.rt
-- has a function for each definition. A line of an offset is as in the settings (cell_settings). No
-- other crate cites it; callers meet it in `edits_of` (Edits).
use Rattle.std.specs.Prelude.{ℕ, List, [], ◌∷◌, Option, Some, None, codes, ℤ, if◌then◌else◌}
use Rattle.std.specs.Str.{bytes_eq}
use Rattle.nc_number.specs.declared.value.Var.{Var}
use Rattle.nc_number.specs.declared.value.Var.TheVariants.{Vacant, Is}
use Rattle.nc_number.specs.Literals.{is_literal, value_of_literal, word_literal}
use Rattle.nc_number.specs.Options.{◌>>=◌}
use Rattle.field_lines.specs.Field.{number_in, path_of}
use Rattle.field_lines.specs.Line.{line_fields}
use Rattle.cell_settings.specs.declared.preset.Preset.{Preset}
use Rattle.cell_settings.specs.PresetLine.{preset_of}
use Rattle.cell_settings.specs.Slots.{preset_slot}
use Rattle.common_vars.specs.Common.{common_number}
use Rattle.run_records.specs.declared.edit.Edit.{Edit}
use Rattle.run_records.specs.declared.edit.Edit.TheVariants as edit
use Rattle.edit_texts.specs.declared.edit_list.PathEdit.{PathEdit}
use Rattle.edit_texts.specs.declared.entry.Entry.{Entry}
use Rattle.edit_texts.specs.declared.entry.Entry.TheVariants as says

-- the edit that sets the offset of a line, which is written as in the settings
abbrev pub edit_of_preset : Preset → PathEdit
edit_of_preset preset = record { path = preset.path; edit = edit.Offset (preset_slot preset.kind preset.number) preset.to }

-- the number of a common variable that a field writes: 100 to 199, or 500 to 999
unfoldable pub number_of : List ℕ → Option ℕ
number_of text = do
  n ← number_in 100 999 text
  common_number n

-- the number that a literal writes in whole units, as millionths; none if the text is no literal or
-- has too many digits
unfoldable pub value_of : List ℕ → Option ℤ
value_of text = if is_literal text then value_of_literal (word_literal text) else None

-- what a variable is to be: vacant, or the number that a literal writes
unfoldable pub var_of : List ℕ → Option Var
var_of text = if bytes_eq text (codes "vacant") then Some Vacant else (do
  value ← value_of text
  Some (Is value))

-- the edit that the values of `var` say: a variable of a path, and what it is to be
unfoldable pub variable_of : List (List ℕ) → Option PathEdit
variable_of (path ∷ number ∷ content ∷ []) = do
  p ← path_of path
  v ← number_of number
  to ← var_of content
  Some (record { path = p; edit = edit.Common v to })
variable_of _ = None

-- what a name and its values say: a variable is set, or an offset as in the settings
unfoldable pub edit_of : List ℕ → List (List ℕ) → Option PathEdit
edit_of name values = if bytes_eq name (codes "var") then variable_of values else (do
  preset ← preset_of name values
  Some (edit_of_preset preset))

-- what the fields of a line say: a name and its values; no field says nothing
unfoldable pub fields_say : List (List ℕ) → Option Entry
fields_say [] = Some says.Nothing
fields_say (name ∷ values) = do
  one ← edit_of name values
  Some (says.Edit one)

-- what a line says is what its fields say; none if it is not allowed
unfoldable pub line_says : List ℕ → Option Entry
line_says line = do
  fields ← line_fields line
  fields_say fields
