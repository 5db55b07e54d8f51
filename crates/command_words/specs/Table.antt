-- The commands of the program, as one list of rows. What the words after a command's name mean is
-- in Listed. Src/table.rt has the same rows, and a further command is a row in both.
use Rattle.std.specs.Prelude.{ℕ, Bool, true, ◌&&◌, not, List, [], ◌∷◌, ◌++◌, map, find, Option, codes}
use Rattle.std.specs.List.{list_any}
use Rattle.std.specs.Str.{bytes_eq}
use Rattle.command_words.specs.declared.table.Row.{Row}
use Rattle.command_words.specs.declared.table.Task.{Task}
use Rattle.command_words.specs.declared.table.Task.TheVariants.{Verify, Waits, Races, Trace, Run, Resume, Edit, Moves, State, Zones, Branch, Make, Expand, Plain}

-- a word, or a part of one: its bytes
abbrev pub Text : Type 0
Text = List ℕ

-- a command: the word that it begins with, what its words are called and which of them may be left
-- out, which options it takes, and what it asks for
pub record Listing : Type 0 where
  -- the word that the command begins with
  pub name : Text
  -- what the words after the name are called that the command must have
  pub words : List Text
  -- what further words behind these are called, which may be left out
  pub further : List Text
  -- the options that the command takes, without the dashes
  pub options : List Text
  -- what the command asks for
  pub task : Task

-- the row of a name, words, words that may be left out, options and a task
abbrev pub listing : Text → List Text → List Text → List Text → Task → Listing
listing name words further options task =
    record { name = name; words = words; further = further; options = options; task = task }

-- the words that a command of a pair must have: the two tapes
abbrev pub pair_words : List Text
pair_words = codes "left" ∷ codes "right" ∷ []

-- the word of a command of a pair that may be left out: the settings
abbrev pub settings_word : List Text
settings_word = codes "settings" ∷ []

-- the option of `waits`: the programs that the tapes may lack
abbrev pub outside_options : List Text
outside_options = codes "outside" ∷ []

-- the option of `trace`: the most blocks to run
abbrev pub block_options : List Text
block_options = codes "blocks" ∷ []

-- the options of `make`: the files to which the turrets write what they get
abbrev pub turret_options : List Text
turret_options = codes "turret1" ∷ codes "turret2" ∷ []

-- the options of `run` and `resume`: the most blocks to run, and the files of the turrets
abbrev pub run_options : List Text
run_options = codes "blocks" ∷ turret_options

-- all commands, in the order of the code's table
unfoldable pub listings : List Listing
listings =
    listing (codes "verify") pair_words settings_word [] Verify
    ∷ listing (codes "waits") pair_words settings_word outside_options Waits
    ∷ listing (codes "races") pair_words settings_word [] Races
    ∷ listing (codes "trace") pair_words settings_word block_options Trace
    ∷ listing (codes "run") pair_words settings_word run_options Run
    ∷ listing (codes "resume") [] [] run_options Resume
    ∷ listing (codes "edit") (codes "edits" ∷ []) [] [] Edit
    ∷ listing (codes "moves") [] [] [] Moves
    ∷ listing (codes "state") [] [] [] State
    ∷ listing (codes "zones") (codes "zones" ∷ []) (pair_words ++ settings_word) [] Zones
    ∷ listing (codes "branch") (codes "meetings" ∷ []) [] [] Branch
    ∷ listing (codes "make") (codes "number" ∷ []) [] turret_options Make
    ∷ listing (codes "expand") (codes "tape" ∷ []) [] [] Expand
    ∷ listing (codes "plain") (codes "tape" ∷ []) settings_word [] Plain ∷ []

-- a row of the code, as clauses see it
abbrev pub row_seen : Row → Listing
row_seen row =
    listing row.name.now (map (λ word. word.now) row.words.now) (map (λ word. word.now) row.further.now)
    (map (λ id. id.now) row.options.now) row.task

-- whether a row takes the option
abbrev pub takes_option : Listing → Text → Bool
takes_option row id = list_any (λ own. bytes_eq own id) row.options

-- the first row that has the name, if one has it
abbrev pub row_in : List Listing → Text → Option Listing
row_in rows name = find (λ row. bytes_eq row.name name) rows

-- the row of the command that a word names, if it names one
abbrev pub row_of : Text → Option Listing
row_of name = row_in listings name

-- whether no later command has the name of an earlier one
abbrev pub names_stand_once : List Listing → Bool
names_stand_once [] = true
names_stand_once (row ∷ rows) = not (list_any (λ later. bytes_eq later.name row.name) rows) && names_stand_once rows
