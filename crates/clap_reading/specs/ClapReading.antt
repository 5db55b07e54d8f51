-- The command that the words give, as the `clap` command reads them: the functions of
-- src/reading.rt answer it, and src/law.rt says that it is the listed one. A Row of clap is what
-- the parse found for one argument; a Listing is a row of the list of commands (command_words). No
-- other crate cites it.
use Rattle.std.specs.Prelude.{List, [], ◌∷◌, ◌++◌, Option, Some, None, codes, if◌then◌else◌, option_and_then, option_map}
use Rattle.clap.specs.Walk.{is_empty}
use Rattle.clap.specs.Words.{Row, fault_of, first_of, subcommand_of}
use Rattle.clap.specs.declared.error.kind.ErrorKind.{ErrorKind}
use Rattle.clap.specs.declared.error.kind.ErrorKind.TheVariants as kind
use Rattle.clap_reading.specs.Grammar.{program_app}
use Rattle.command_words.specs.Listed.{OptionTextsView, command_of}
use Rattle.command_words.specs.Table.{Listing, Text, row_of, takes_option}
use Rattle.command_words.specs.declared.command.Command.{Command}
use Rattle.command_words.specs.declared.fault.WordsFault.{WordsFault}
use Rattle.command_words.specs.declared.fault.WordsFault.TheVariants.{NoMemory, Usage}

-- What the words of a command were given that it must have, each by its name; none if one was not.
abbrev pub names_in : List Row → List Text → Option (List Text)
names_in given [] = Some []
names_in given (id ∷ ids) =
    option_and_then (λ first. option_map (λ rest. first ∷ rest) (names_in given ids)) (first_of id given)

-- A name that was given, as a list; none if none was.
abbrev pub given_name : Option Text → List Text
given_name None = []
given_name (Some name) = name ∷ []

-- What the words of a command were given that may be left out, where they were.
abbrev pub further_in : List Row → List Text → List Text
further_in given [] = []
further_in given (id ∷ ids) = given_name (first_of id given) ++ further_in given ids

-- What all words of a command were given; none if one was not that may not be left out.
abbrev pub names_of : List Row → Listing → Option (List Text)
names_of given row = option_map (λ names. names ++ further_in given row.further) (names_in given row.words)

-- The text of an option, if the command takes it and it was given.
abbrev pub text_at : Listing → Text → List Row → Option Text
text_at row id given = if takes_option row id then first_of id given else None

-- The texts of all options that the command takes and that were given.
abbrev pub texts_at : Listing → List Row → OptionTextsView
texts_at row given = record {
  blocks = text_at row (codes "blocks") given;
  turret1 = text_at row (codes "turret1") given;
  turret2 = text_at row (codes "turret2") given;
  outside = text_at row (codes "outside") given;
}

-- The command of a listed row and of what was given.
abbrev pub command_from : List Row → Listing → Option Command
command_from given row =
    option_and_then (λ names. command_of row.task names (texts_at row given)) (names_of given row)

-- The command of the subcommand of this name and of what it was given.
unfoldable pub command_in : Text → List Row → Option Command
command_in name given = option_and_then (command_from given) (row_of name)

-- The command of the subcommand that the parse met, if it met one.
abbrev pub command_met : Option (Text × List Row) → Option Command
command_met = option_and_then (λ met. command_in met.0 met.1)

-- The command of a line: if `clap` takes the line, that of its subcommand and its arguments.
unfoldable pub command_of_line : List Text → Option Command
command_of_line line = if is_empty (fault_of program_app line) then command_met (subcommand_of program_app line) else None

-- The words with the program's name before them.
abbrev pub line_of : List Text → List Text
line_of words = codes "twin_lathe" ∷ words

-- The command that `clap` reads in the words.
abbrev pub clap_command : List Text → Option Command
clap_command words = command_of_line (line_of words)

-- Why there is no command if `clap` ends with an error of this kind: out of memory, or the words
-- are none.
abbrev pub fault_by : ErrorKind → WordsFault
fault_by kind.OutOfMemory = NoMemory
fault_by _ = Usage
