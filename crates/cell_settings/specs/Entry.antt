-- What a line of settings says, a definition for each name; a line that is none of these is not
-- allowed. src/named.rt has a function for each. No other crate cites it; callers meet it in
-- `settings_of` (Cell).
use Rattle.std.specs.Prelude.{ℕ, ◌≤◌, true, false, List, [], ◌∷◌, Option, Some, None, codes, if◌then◌else◌}
use Rattle.std.specs.Str.{bytes_eq}
use Rattle.cell_settings.specs.declared.preset.Preset.{Preset}
use Rattle.code_tables.specs.declared.system.System.TheVariants.{A, B}
use Rattle.cell_settings.specs.declared.entry.Entry.{Entry}
use Rattle.cell_settings.specs.declared.entry.Entry.TheVariants as says
use Rattle.nc_number.specs.declared.limits.TheConstants.{MOST_RECORDS}
use Rattle.nc_number.specs.Options.{◌>>=◌}
use Rattle.field_lines.specs.Field.{number_in, path_of}
use Rattle.field_lines.specs.Length.{point_of}
use Rattle.nc_number.specs.Position.{IsPosition}
use Rattle.cell_settings.specs.Preset.{IsPreset}
use Rattle.cell_settings.specs.PresetLine.{preset_of}

-- what the values of `wait` say: the first and the last waiting code, 100 to 999
unfoldable pub wait_of : List (List ℕ) → Option Entry
wait_of (first ∷ last ∷ []) = do
  low ← number_in 100 999 first
  high ← number_in low 999 last
  Some (says.Wait low high)
wait_of _ = None

-- what the value of `shared100` says: how many variables from #100 on are shared, 100 at most
unfoldable pub shared100_of : List (List ℕ) → Option Entry
shared100_of (count ∷ []) = do
  n ← number_in 0 100 count
  Some (says.Shared100 n)
shared100_of _ = None

-- what the value of `shared500` says: how many variables from #500 on are shared, 500 at most
unfoldable pub shared500_of : List (List ℕ) → Option Entry
shared500_of (count ∷ []) = do
  n ← number_in 0 500 count
  Some (says.Shared500 n)
shared500_of _ = None

-- what the value of `paths` says: how the P of a wait names the paths
unfoldable pub paths_of : List (List ℕ) → Option Entry
paths_of (form ∷ []) =
    if bytes_eq form (codes "bits") then Some (says.Paths true)
    else (if bytes_eq form (codes "numbers") then Some (says.Paths false) else None)
paths_of _ = None

-- what the value of `codes` says: the system of the tapes' G codes
unfoldable pub codes_of : List (List ℕ) → Option Entry
codes_of (system ∷ []) =
    if bytes_eq system (codes "A") then Some (says.Codes A)
    else (if bytes_eq system (codes "B") then Some (says.Codes B) else None)
codes_of _ = None

-- what the values of `skip` say: a path, and a switch from 1 to 9 that is fixed as on
unfoldable pub skip_of : List (List ℕ) → Option Entry
skip_of (path ∷ switch ∷ []) = do
  p ← path_of path
  n ← number_in 1 9 switch
  Some (says.Skip p n)
skip_of _ = None

-- what the values of `unskip` say: a path, and a switch from 1 to 9 that is fixed as off
unfoldable pub unskip_of : List (List ℕ) → Option Entry
unskip_of (path ∷ switch ∷ []) = do
  p ← path_of path
  n ← number_in 1 9 switch
  Some (says.Unskip p n)
unskip_of _ = None

-- what the values of `place` say: the opening position of a path
unfoldable pub place_of : List (List ℕ) → Option Entry
place_of (path ∷ x ∷ z ∷ []) = do
  p ← path_of path
  to ← point_of x z
  Some (says.Place p to)
place_of _ = None

-- what the values of `home` say: the reference position of a path
unfoldable pub home_of : List (List ℕ) → Option Entry
home_of (path ∷ x ∷ z ∷ []) = do
  p ← path_of path
  to ← point_of x z
  Some (says.Home p to)
home_of _ = None

-- what the value of `records` says: how many records the journal may have
unfoldable pub records_of : List (List ℕ) → Option Entry
records_of (count ∷ []) = do
  n ← number_in 1 MOST_RECORDS count
  Some (says.Records n)
records_of _ = None

-- what a name and its values say, if it is none of a position or an offset
unfoldable pub named_of : List ℕ → List (List ℕ) → Option Entry
named_of name values =
    if bytes_eq name (codes "wait") then wait_of values
    else (if bytes_eq name (codes "shared100") then shared100_of values
    else (if bytes_eq name (codes "shared500") then shared500_of values
    else (if bytes_eq name (codes "paths") then paths_of values
    else (if bytes_eq name (codes "codes") then codes_of values
    else (if bytes_eq name (codes "skip") then skip_of values
    else (if bytes_eq name (codes "unskip") then unskip_of values
    else (if bytes_eq name (codes "records") then records_of values
    else None)))))))

-- an offset, or what else the line says
abbrev pub offset_or : Option Preset → Option Entry → Option Entry
offset_or (Some preset) other = Some (says.Offset preset)
offset_or None other = other

-- what a name and its values say, of a position, of an offset or of any other name
unfoldable pub named_point_of : List ℕ → List (List ℕ) → Option Entry
named_point_of name values =
    if bytes_eq name (codes "place") then place_of values
    else (if bytes_eq name (codes "home") then home_of values
    else offset_or (preset_of name values) (named_of name values))

-- what the fields of a line say: a name and its values; no field says nothing
unfoldable pub fields_say : List (List ℕ) → Option Entry
fields_say [] = Some says.Nothing
fields_say (name ∷ values) = named_point_of name values

-- the numbers and points of what a line says are in their ranges
abbrev pub IsAllowed : Entry → Type 0
IsAllowed says.Nothing = Unit {0}
IsAllowed (says.Wait low high) = (100 ≤ low) × (low ≤ high) × (high ≤ 999)
IsAllowed (says.Shared100 n) = n ≤ 100
IsAllowed (says.Shared500 n) = n ≤ 500
IsAllowed (says.Paths bits) = Unit {0}
IsAllowed (says.Codes system) = Unit {0}
IsAllowed (says.Skip path switch) = (1 ≤ switch) × (switch ≤ 9)
IsAllowed (says.Unskip path switch) = (1 ≤ switch) × (switch ≤ 9)
IsAllowed (says.Place path to) = IsPosition to
IsAllowed (says.Home path to) = IsPosition to
IsAllowed (says.Offset preset) = IsPreset preset
IsAllowed (says.Records n) = (1 ≤ n) × (n ≤ MOST_RECORDS)
