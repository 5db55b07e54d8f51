-- The grammar of the command line, word by word, over the list of commands (Table).
use Rattle.std.specs.Prelude.{◌≡◌, ℕ, ◌+◌, Bool, true, false, ◌&&◌, ◌==◌, not, if◌then◌else◌, List, [], ◌∷◌, ◌++◌, find, length, nat_le, Option, Some, None, is_some, map, option_and_then, option_map, codes}
use Rattle.std.specs.List.{after_first, before_first, list_any, slice_index}
use Rattle.std.specs.Str.{IsUtf8, bytes_eq}
use Rattle.nc_number.specs.declared.limits.TheConstants.{MOST_RECORDS}
use Rattle.command_words.specs.Number.{number_of}
use Rattle.command_words.specs.Table.{Listing, Text, row_of, takes_option}
use Rattle.command_words.specs.declared.command.Command.{Command}
use Rattle.command_words.specs.declared.command.Command.TheVariants as command
use Rattle.command_words.specs.declared.journal.Journal.{Journal}
use Rattle.command_words.specs.declared.journal.Journal.TheVariants as journal
use Rattle.command_words.specs.declared.command.ProgramRange.{ProgramRange}
use Rattle.command_words.specs.declared.command.TurretFiles.{TurretFiles}
use Rattle.command_words.specs.declared.making.Limits.{Limits}
use Rattle.command_words.specs.declared.making.PairNames.{PairNames}
use Rattle.command_words.specs.declared.making.TheConstants.{DEFAULT_BLOCKS, LAST_MADE, LAST_PROGRAM, MOST_TO_RUN}
use Rattle.command_words.specs.declared.table.Task.{Task}
use Rattle.command_words.specs.declared.table.Task.TheVariants as task

-- an option's name and its text
abbrev pub Marked : Type 0
Marked = Text × Text

-- what was given after a command's name: names, and the options with their texts
pub record Given : Type 0 where
  -- the names, in order
  pub names : List Text
  -- the options, each with its text, in order
  pub marked : List Marked

-- what was given, with one name more before the names
abbrev pub with_name : Text → Option Given → Option Given
with_name word None = None
with_name word (Some given) = Some (record given { names = word ∷ given.names })

-- what was given, with one option and its text more before the options
abbrev pub with_text : Text → Text → Option Given → Option Given
with_text id text None = None
with_text id text (Some given) = Some (record given { marked = (id, text) ∷ given.marked })

-- the word has two bytes or more and begins with `-` (45)
abbrev pub is_option : Text → Bool
is_option word = slice_index word 0 == 45 && nat_le 2 (length word)

-- the word is a text that may be a name: it does not begin with `-`, or is `-` itself
abbrev pub IsName : Text → Type 0
IsName word = IsUtf8 word × (is_option word ≡ false)

-- each of these words is a name
abbrev pub AreNames : List Text → Type 0
AreNames [] = Unit {0}
AreNames (word ∷ rest) = IsName word × AreNames rest

-- what stands before the first `=` (61) of a word, or all of it: an option with its dashes
abbrev pub option_name : Text → Text
option_name word = before_first (λ b. b == 61) word

-- the text attached to an option: what stands after the first `=` (61), if there is one
abbrev pub option_text : Text → Option Text
option_text word = if list_any (λ b. b == 61) word then Some (after_first (λ b. b == 61) word) else None

-- an option as a word: its name after two dashes
abbrev pub long_word : Text → Text
long_word id = 45 ∷ 45 ∷ id

-- which of these options a word is, with a text attached or without, if it is one
abbrev pub option_of : List Text → Text → Option Text
option_of options word = find (λ id. bytes_eq (option_name word) (long_word id)) options

-- what was given from an option on: with the text attached to it, or else with the next word as its
-- text
abbrev pub text_given : Option Text → Text → Option Given → Option Given → Option Given
text_given (Some text) id here next = with_text id text here
text_given None id here next = next

-- what was given from a word on: it is one of the options, or a name, or else refused
abbrev pub word_given : Option Text → Text → Option Given → (Text → Option Given) → Option Given
word_given (Some id) word here next = text_given (option_text word) id here (next id)
word_given None word here next = if is_option word then None else with_name word here

-- What the words after the name of a command that takes these options give; none if they are
-- refused. After `--` every word is a name as it is, a second `--` too. Before it a word that
-- begins with `-` is one of the options or is refused, except for `-` itself.
unfoldable mutual
  pub given : List Text → List Text → Option Given
  given options [] = Some (record { names = []; marked = [] })
  given options (word ∷ rest) =
      if bytes_eq word (codes "--") then Some (record { names = rest; marked = [] })
      else word_given (option_of options word) word (given options rest) (λ id. text_then options rest id)

  -- what was given from an option on whose text is the next word, which may not begin with `-`
  pub text_then : List Text → List Text → Text → Option Given
  text_then options [] id = None
  text_then options (text ∷ rest) id = if is_option text then None else with_text id text (given options rest)

-- the text of an option where it was given first, if it was given
abbrev pub text_in : Text → List Marked → Option Text
text_in id [] = None
text_in id (one ∷ marked) = if bytes_eq one.0 id then Some one.1 else text_in id marked

-- no option was given twice
abbrev pub stand_once : List Marked → Bool
stand_once [] = true
stand_once (one ∷ marked) = not (is_some (text_in one.0 marked)) && stand_once marked

-- the texts of the options, where they were given
pub record OptionTextsView : Type 0 where
  -- the most blocks to run
  pub blocks : Option Text
  -- the file of the turret of path 1
  pub turret1 : Option Text
  -- the file of the turret of path 2
  pub turret2 : Option Text
  -- the programs that the tapes may lack
  pub outside : Option Text

-- the most blocks to run: a number from 1 to 1,000,000, and 100,000 if no text is given
abbrev pub limit_of : Option Text → Option ℕ
limit_of None = Some DEFAULT_BLOCKS
limit_of (Some text) = number_of 1 MOST_TO_RUN text

-- the file that an option names, if it was given; an empty name is refused
abbrev pub file_of : Option Text → Option (Option Text)
file_of None = Some None
file_of (Some []) = None
file_of (Some (b ∷ text)) = Some (Some (b ∷ text))

-- the files of both turrets, where they are named
abbrev pub turret_files : Option Text → Option Text → TurretFiles
turret_files one two = record { one = one; two = two }

-- the files that the options name for the turrets; an empty name is refused
abbrev pub files_of : OptionTextsView → Option TurretFiles
files_of texts =
    option_and_then (λ one. option_map (λ two. turret_files one two) (file_of texts.turret2)) (file_of texts.turret1)

-- the byte is `-`, which is 45
abbrev pub is_dash : ℕ → Bool
is_dash b = b == 45

-- the range of O numbers between these, if both are there and the least is not above the greatest
abbrev pub range_by : Option ℕ → Option ℕ → Option ProgramRange
range_by None least = None
range_by (Some greatest) None = None
range_by (Some greatest) (Some least) =
    if nat_le least greatest then Some (record { least = least; greatest = greatest }) else None

-- the range that a text writes: two numbers from 1 to 9,999 with `-` between them, the second not
-- below the first
abbrev pub range_of : Text → Option ProgramRange
range_of text =
    range_by (number_of 1 LAST_PROGRAM (after_first is_dash text)) (number_of 1 LAST_PROGRAM (before_first is_dash text))

-- the programs that the tapes may lack: none if no text is given, else the range that it writes
abbrev pub outside_of : Option Text → Option (Option ProgramRange)
outside_of None = Some None
outside_of (Some text) = option_map Some (range_of text)

-- the command of a task that has no word, by what the options of numbers say and by the files of the
-- turrets
abbrev pub plain_command : Task → Limits → TurretFiles → Option Command
plain_command task.Resume limits files = Some (command.Resume limits.blocks files)
plain_command task.Moves limits files = Some command.Moves
plain_command task.State limits files = Some command.State
plain_command _ limits files = None

-- the command of a task that has one word
abbrev pub word_command : Task → Text → TurretFiles → Option Command
word_command task.Edit edits files = Some (command.Edit edits)
word_command task.Zones zones files = Some (command.Zones zones)
word_command task.Expand tape files = Some (command.Expand tape)
word_command task.Plain tape files = Some (command.Plain tape None)
word_command task.Branch meetings files = option_map command.Branch (number_of 0 MOST_RECORDS meetings)
word_command task.Make number files = option_map (λ n. command.Make n files) (number_of 0 LAST_MADE number)
word_command _ word files = None

-- the command of a tape and its settings; a third word is too many
abbrev pub tape_command : Text → Text → Option Text → Option Command
tape_command tape settings None = Some (command.Plain tape (Some settings))
tape_command tape settings (Some third) = None

-- the command of a text of zones and a pair of tapes without settings; one tape alone is too few
abbrev pub zones_command : Text → Text → Option Text → Option Command
zones_command zones left None = None
zones_command zones left (Some right) = Some (command.ZonesOf zones left right None)

-- the command of a task that has a word before the names of a pair and its settings
abbrev pub long_command : Task → Text → PairNames → Option Command
long_command task.Zones zones pair = Some (command.ZonesOf zones pair.left pair.right pair.settings)
long_command _ word pair = None

-- the command of a task that has two or three words: those of a pair, a tape and its settings, or a
-- text of zones and a pair without settings
abbrev pub pair_command : Task → PairNames → Limits → TurretFiles → Option Command
pair_command task.Verify pair limits files = Some (command.Verify pair.left pair.right pair.settings)
pair_command task.Trace pair limits files = Some (command.Trace pair.left pair.right pair.settings limits.blocks)
pair_command task.Waits pair limits files = Some (command.Waits pair.left pair.right pair.settings limits.outside)
pair_command task.Races pair limits files = Some (command.Races pair.left pair.right pair.settings)
pair_command task.Run pair limits files = Some (command.Run pair.left pair.right pair.settings limits.blocks files)
pair_command task.Plain pair limits files = tape_command pair.left pair.right pair.settings
pair_command task.Zones pair limits files = zones_command pair.left pair.right pair.settings
pair_command _ pair limits files = None

-- the command that a task makes of its words, by how many there are
abbrev pub command_with : Task → List Text → Limits → TurretFiles → Option Command
command_with what [] limits files = plain_command what limits files
command_with what (word ∷ []) limits files = word_command what word files
command_with what (left ∷ right ∷ []) limits files =
    pair_command what (record { left = left; right = right; settings = None }) limits files
command_with what (left ∷ right ∷ settings ∷ []) limits files =
    pair_command what (record { left = left; right = right; settings = Some settings }) limits files
command_with what (word ∷ left ∷ right ∷ settings ∷ []) limits files =
    long_command what word (record { left = left; right = right; settings = Some settings })
command_with what words limits files = None

-- the command that a task makes of its words and of the texts of the options
abbrev pub command_of : Task → List Text → OptionTextsView → Option Command
command_of what words texts =
    option_and_then
    (λ blocks. option_and_then
    (λ outside. option_and_then (command_with what words (record { blocks = blocks; outside = outside })) (files_of texts))
    (outside_of texts.outside))
    (limit_of texts.blocks)

-- the text of an option, if the row takes it and it was given
abbrev pub text_for : Listing → Text → List Marked → Option Text
text_for row id marked = if takes_option row id then text_in id marked else None

-- the texts of the options that a row takes
abbrev pub texts_for : Listing → List Marked → OptionTextsView
texts_for row marked = record {
  blocks = text_for row (codes "blocks") marked;
  turret1 = text_for row (codes "turret1") marked;
  turret2 = text_for row (codes "turret2") marked;
  outside = text_for row (codes "outside") marked;
}

-- a row takes so many words: all that it must have, and no more than it has names for
abbrev pub takes_words : Listing → ℕ → Bool
takes_words row n = nat_le (length row.words) n && nat_le n (length row.words + length row.further)

-- the command of a row and of what was given: the row takes as many words, and each of its options
-- once at most
abbrev pub command_given : Listing → Given → Option Command
command_given row all =
    if takes_words row (length all.names) && stand_once all.marked
    then command_of row.task all.names (texts_for row all.marked)
    else None

-- the command of a row, by the words after its name
abbrev pub command_behind : List Text → Listing → Option Command
command_behind rest row = option_and_then (command_given row) (given row.options rest)

-- the word of this name is one of these options, alone or with a text attached
pub record IsOptionOf (options : List Text) (id : Text) : Type 0 where
  -- the word is not `--`
  pub named : bytes_eq (long_word id) (codes "--") ≡ false
  -- the word is that option
  pub own : option_of options (long_word id) ≡ Some id
  -- alone it has no text; 61 is the character `=`
  pub alone : option_text (long_word id) ≡ None
  -- with `=` and a text it is that option with that text
  pub with : (text : Text) → (bytes_eq (long_word id ++ 61 ∷ text) (codes "--") ≡ false)
      × (option_of options (long_word id ++ 61 ∷ text) ≡ Some id) × (option_text (long_word id ++ 61 ∷ text) ≡ Some text)

-- whether a row gives a command for the words `1`, one for each of these
abbrev pub gives_for : Listing → List Text → Bool
gives_for row words = is_some (command_given row (record { names = map (λ _. codes "1") words; marked = [] }))

-- whether a row gives a command for as many words `1` as it must have, and for as many as it may
-- have
abbrev pub gives_a_command : Listing → Bool
gives_a_command row = gives_for row row.words && gives_for row (row.words ++ row.further)

-- the files of the turrets that a command names, if it is one that may name any
abbrev pub files_in : Command → Option TurretFiles
files_in (command.Verify left right settings) = None
files_in (command.Waits left right settings outside) = None
files_in (command.Races left right settings) = None
files_in (command.Trace left right settings blocks) = None
files_in (command.Run left right settings blocks files) = Some files
files_in (command.Resume blocks files) = Some files
files_in (command.Edit edits) = None
files_in command.Moves = None
files_in command.State = None
files_in (command.Zones zones) = None
files_in (command.ZonesOf zones left right settings) = None
files_in (command.Branch meetings) = None
files_in (command.Make number files) = Some files
files_in (command.Expand tape) = None
files_in (command.Plain tape settings) = None

-- what a command does with the journal of a run
abbrev pub journal_use : Command → Journal
journal_use (command.Verify left right settings) = journal.None
journal_use (command.Waits left right settings outside) = journal.None
journal_use (command.Races left right settings) = journal.None
journal_use (command.Trace left right settings blocks) = journal.None
journal_use (command.Run left right settings blocks files) = journal.Write
journal_use (command.Resume blocks files) = journal.Write
journal_use (command.Edit edits) = journal.Write
journal_use command.Moves = journal.Look
journal_use command.State = journal.Look
journal_use (command.Zones zones) = journal.Look
journal_use (command.ZonesOf zones left right settings) = journal.None
journal_use (command.Branch meetings) = journal.Look
journal_use (command.Make number files) = journal.Write
journal_use (command.Expand tape) = journal.None
journal_use (command.Plain tape settings) = journal.None

-- what a program that was asked for this does with the journal: nothing, if its words are no command
abbrev pub journal_of : Option Command → Journal
journal_of None = journal.None
journal_of (Some asked) = journal_use asked

-- the command of the words: the first names the row, and the row says how the others are read
unfoldable pub listed_command : List Text → Option Command
listed_command [] = None
listed_command (name ∷ rest) = option_and_then (command_behind rest) (row_of name)
