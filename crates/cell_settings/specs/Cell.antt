-- The settings that a text gives, line by line, or its first line that is not allowed.
use Rattle.std.specs.Prelude.{ℕ, ◌^◌, ◌-◌, Bool, true, List, [], ◌∷◌, Result, slice_index, slice_set, bit_and, bit_or}
use Rattle.std.specs.Str.Lines.{lines}
use Rattle.nc_number.specs.declared.path.Path.{Path}
use Rattle.nc_number.specs.declared.point.Point.{Point}
use Rattle.nc_number.specs.declared.limits.TheConstants.{MOST_RECORDS}
use Rattle.nc_number.specs.Path.{index_of}
use Rattle.nc_number.specs.Position.{origin}
use Rattle.code_tables.specs.declared.system.System.{System}
use Rattle.code_tables.specs.declared.system.System.TheVariants.{A}
use Rattle.cell_settings.specs.declared.preset.Preset.{Preset}
use Rattle.cell_settings.specs.declared.entry.Entry.{Entry}
use Rattle.cell_settings.specs.declared.entry.Entry.TheVariants as says
use Rattle.field_lines.specs.Line.{line_says, entries_of, first_refused, unless_refused}
use Rattle.cell_settings.specs.Entry.{fields_say}
use Rattle.cell_settings.specs.Preset.{with_preset}

-- the settings of the cell as contracts see them; in a list of two the first item is path 1's
pub record Cell : Type 0 where
  -- the first waiting code
  pub wait_low : ℕ
  -- the last waiting code
  pub wait_high : ℕ
  -- how many variables from #100 on both paths share
  pub shared100 : ℕ
  -- how many variables from #500 on both paths share
  pub shared500 : ℕ
  -- the P of a wait names the paths by bits, and not by their numbers
  pub bits : Bool
  -- the system of the tapes' G codes
  pub system : System
  -- the skip switches of each path that are fixed as on: bit n is switch n
  pub skips : List ℕ
  -- the skip switches of each path that are fixed as off: bit n is switch n
  pub unskips : List ℕ
  -- the opening position of each path, in machine coordinates
  pub place : List Point
  -- the reference position of each path, in machine coordinates
  pub home : List Point
  -- how many records the journal may have
  pub records : ℕ
  -- the offsets that the paths begin with
  pub presets : List Preset

-- The settings of an empty text: waits M100 to M197 that name the paths by bits, system A, both
-- paths share #500 to #599, no skip switch is fixed, turrets and offsets are at 0, and the journal may
-- have as many records as a run (4,000,000).
abbrev pub standard : Cell
standard = record {
  wait_low = 100;
  wait_high = 197;
  shared100 = 0;
  shared500 = 100;
  bits = true;
  system = A;
  skips = 0 ∷ 0 ∷ [];
  unskips = 0 ∷ 0 ∷ [];
  place = origin ∷ origin ∷ [];
  home = origin ∷ origin ∷ [];
  records = MOST_RECORDS;
  presets = [];
}

-- switches of both paths with one more, of this path: bit n is switch n
abbrev pub with_switch : Path → ℕ → List ℕ → List ℕ
with_switch path switch skips = slice_set skips (index_of path) (bit_or (slice_index skips (index_of path)) (2 ^ switch))

-- switches of both paths without this one of this path: bit n is switch n, and a mask has the bits
-- 0 to 9
abbrev pub without_switch : Path → ℕ → List ℕ → List ℕ
without_switch path switch skips = slice_set skips (index_of path) (bit_and (slice_index skips (index_of path)) (1023 - 2 ^ switch))

-- the settings with one line more: it takes the place of an earlier one of its name and numbers,
-- but a switch is added to those that are fixed as on or off, and taken from the others
abbrev pub with_entry : Cell → Entry → Cell
with_entry cell says.Nothing = cell
with_entry cell (says.Wait low high) = record cell { wait_low = low; wait_high = high }
with_entry cell (says.Shared100 n) = record cell { shared100 = n }
with_entry cell (says.Shared500 n) = record cell { shared500 = n }
with_entry cell (says.Paths bits) = record cell { bits = bits }
with_entry cell (says.Codes system) = record cell { system = system }
with_entry cell (says.Skip path switch) =
    record cell { skips = with_switch path switch cell.skips; unskips = without_switch path switch cell.unskips }
with_entry cell (says.Unskip path switch) =
    record cell { skips = without_switch path switch cell.skips; unskips = with_switch path switch cell.unskips }
with_entry cell (says.Place path to) = record cell { place = slice_set cell.place (index_of path) to }
with_entry cell (says.Home path to) = record cell { home = slice_set cell.home (index_of path) to }
with_entry cell (says.Offset preset) = record cell { presets = with_preset preset cell.presets }
with_entry cell (says.Records n) = record cell { records = n }

-- the settings with what all lines say, one after the other
abbrev pub with_entries : Cell → List Entry → Cell
with_entries cell [] = cell
with_entries cell (entry ∷ entries) = with_entries (with_entry cell entry) entries

-- the settings of a text, or the number of its first line that is not allowed
unfoldable pub settings_of : List ℕ → Result Cell ℕ
settings_of text =
    unless_refused (first_refused (line_says fields_say) 1 (lines text))
    (with_entries standard (entries_of (line_says fields_say) (lines text)))
