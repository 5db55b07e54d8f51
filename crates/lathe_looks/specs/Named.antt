-- The files that a command names: which kinds there are, how long each may be, and the lists in
-- which they are read.
use Rattle.std.specs.Prelude.{ℕ, List, [], ◌∷◌, Option, Some, None, drop, get_or}
use Rattle.nc_number.specs.declared.limits.TheConstants.{LONGEST_TAPE}
use Rattle.nc_verify.specs.Verdict.{Texts}
use Rattle.lathe_calls.specs.declared.pair_texts.TheConstants.{LONGEST_SETTINGS}
use Rattle.tape_calls.specs.Texts.{TapeView, tape_and_settings}
use Rattle.lathe_looks.specs.declared.files.CommandFile.{CommandFile}
use Rattle.lathe_looks.specs.declared.files.CommandFile.TheVariants.{Left, Right, Settings, Tape, Zones, Edits}

-- A file of a command: which of its files it is, and its name.
pub record Named : Type 0 where
  -- which of the command's files it is
  pub file : CommandFile
  -- the name that the command gives it
  pub name : List ℕ

-- A file of this kind and name.
abbrev pub named_file : CommandFile → List ℕ → Named
named_file file name = record { file = file; name = name }

-- The most bytes that a file of this kind may have.
abbrev pub most_bytes : CommandFile → ℕ
most_bytes Left = LONGEST_TAPE
most_bytes Right = LONGEST_TAPE
most_bytes Settings = LONGEST_SETTINGS
most_bytes Tape = LONGEST_TAPE
most_bytes Zones = LONGEST_SETTINGS
most_bytes Edits = LONGEST_SETTINGS

-- The files of both tapes, that of path 1 first.
abbrev pub tapes_of : List ℕ → List ℕ → List Named
tapes_of left right = named_file Left left ∷ named_file Right right ∷ []

-- The file of the settings, if they are named.
abbrev pub settings_named : Option (List ℕ) → List Named
settings_named None = []
settings_named (Some name) = named_file Settings name ∷ []

-- The files of a pair, in the order in which they are read: both tapes, and the settings if they are
-- named.
abbrev pub files_of : List ℕ → List ℕ → Option (List ℕ) → List Named
files_of left right settings = named_file Left left ∷ named_file Right right ∷ settings_named settings

-- The one file of `expand`.
abbrev pub tape_named : List ℕ → List Named
tape_named name = named_file Tape name ∷ []

-- The files of `plain`: the tape, and the settings if they are named.
abbrev pub tape_with_settings : List ℕ → Option (List ℕ) → List Named
tape_with_settings name settings = named_file Tape name ∷ settings_named settings

-- The one file of `zones`.
abbrev pub zones_named : List ℕ → List Named
zones_named name = named_file Zones name ∷ []

-- The files of `zones` with a pair: the text of zones before those of the pair.
abbrev pub zones_before : List ℕ → List Named → List Named
zones_before name files = named_file Zones name ∷ files

-- The one file of `edit`.
abbrev pub edits_named : List ℕ → List Named
edits_named name = named_file Edits name ∷ []

-- The texts of a pair, from those of its files in their order. Settings that no file has are empty.
abbrev pub pair_texts : List (List ℕ) → Texts
pair_texts texts = record { left = get_or texts 0 []; right = get_or texts 1 []; settings = get_or texts 2 [] }

-- The texts of `plain`, from those of its files in their order. Settings that no file has are empty.
abbrev pub tape_texts : List (List ℕ) → TapeView
tape_texts texts = tape_and_settings (get_or texts 0 []) (get_or texts 1 [])

-- A text of zones, and the texts of a pair.
pub record PairWithZones : Type 0 where
  -- the text of zones
  pub zones : List ℕ
  -- the texts of the pair
  pub pair : Texts

-- A text of zones before the texts of a pair.
abbrev pub with_zones : List ℕ → Texts → PairWithZones
with_zones zones pair = record { zones = zones; pair = pair }

-- The text of zones and the texts of a pair, from those of their files in their order.
abbrev pub zones_and_pair : List (List ℕ) → PairWithZones
zones_and_pair texts = with_zones (get_or texts 0 []) (pair_texts (drop 1 texts))

-- The text of the one file of a list; of none it is empty.
abbrev pub only_text : List (List ℕ) → List ℕ
only_text texts = get_or texts 0 []
