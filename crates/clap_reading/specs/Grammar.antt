-- The `clap` command of the program, made from the list of commands: what src/grammar.rt builds. A
-- Rule is what clap knows of one argument. For this crate alone.
use Rattle.std.specs.Prelude.{◌≡◌, true, false, Some, codes, fold}
use Rattle.clap.specs.Simple.{new_shape}
use Rattle.clap.specs.Words.{App, Rule, Text, app_of, new_app, new_rule, with_rule, with_subcommand}
use Rattle.clap.specs.declared.builder.command.Command.{Command}
use Rattle.clap.specs.declared.builder.command.Command.TheViews.{out-Command}
use Rattle.command_words.specs.Table.{Listing, listings}

-- The rule of a word that must be given.
abbrev pub name_rule : Text → Rule
name_rule id = record (new_rule id) { required = true }

-- The rule of a word that may be left out.
abbrev pub further_rule : Text → Rule
further_rule id = new_rule id

-- The rule of an option with a text, which is called by its name, as `--blocks 14`.
abbrev pub option_rule : Text → Rule
option_rule id = record (new_rule id) { long = Some id }

-- A command with one word more.
abbrev pub with_name_rule : App → Text → App
with_name_rule app id = with_rule app (name_rule id)

-- The command of a row with the words that it must have.
abbrev pub with_names : Listing → App
with_names row = fold with_name_rule (new_app row.name) row.words

-- A command with one word more that may be left out.
abbrev pub with_further_rule : App → Text → App
with_further_rule app id = with_rule app (further_rule id)

-- The command of a row with all its words.
abbrev pub with_words : Listing → App
with_words row = fold with_further_rule (with_names row) row.further

-- A command with one option more.
abbrev pub with_option_rule : App → Text → App
with_option_rule app id = with_rule app (option_rule id)

-- The subcommand of a row: its words, and then its options.
abbrev pub app_of_row : Listing → App
app_of_row row = fold with_option_rule (with_words row) row.options

-- A command without its rows: it requires a subcommand, and offers neither help nor a version.
abbrev pub bare_app : App
bare_app = record (new_app (codes "twin_lathe")) {
  top = record (new_shape (codes "twin_lathe")) {
    subcommand_required = true;
    disable_help_flag = true;
    disable_help_subcommand = true;
  };
}

-- A command with one subcommand more, that of this row.
abbrev pub with_row : App → Listing → App
with_row app row = with_subcommand app (app_of_row row).top

-- The command of the program, with a subcommand for each listed row.
unfoldable pub program_app : App
program_app = fold with_row bare_app listings

-- What a parse reads of the command is this, and none of its arguments is global.
pub record IsRead (app : App) (command : Command) : Type 0 where
  -- a parse reads the command as this
  pub same : app_of command ≡ app
  -- none of its arguments is global
  pub local : (out-Command command).has_globals ≡ false
