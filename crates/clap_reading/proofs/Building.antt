-- What a parse reads of a command, step by step as the command is built: for the loops of
-- src/grammar.rt.
use Rattle.std.proofs.Common.{◌≡◌, ℕ, ◌+◌, ◌≤◌, ◌<◌, false, ◌||◌, List, [], ◌∷◌, map, take, get_or, length, ap, ap₂, ◌∙◌}
use Rattle.std.specs.List.{fold}
use Rattle.std.proofs.lemmas.List.{map-append, take_all, take_more}
use Rattle.std.proofs.lemmas.List.Sums.{fold_push}
use Rattle.command_words.specs.Table.{listings, row_seen}
use Rattle.command_words.specs.declared.table.Row.{Row}
use Rattle.clap.specs.Simple.{App, with_rule, with_subcommand}
use Rattle.clap.specs.Built.{AddsArg, AddsSubcommand}
use Rattle.clap.specs.Walk.{Rule, rule_of}
use Rattle.clap.specs.declared.builder.arg.Arg.{Arg}
use Rattle.clap.specs.declared.builder.command.Command.{Command}
use Rattle.clap_reading.specs.Grammar.{IsRead, bare_app, program_app, with_row}

-- An argument more is one rule more.
pub adds_arg : (app : App) (rule : Rule) (old : Command) (arg : Arg) (new : Command) → IsRead app old → AddsArg old arg new
    → rule_of arg ≡ rule → arg.global ≡ false → IsRead (with_rule app rule) new
adds_arg app rule old arg new read adds is_rule local = record {
  same = adds.shape local ∙ ap₂ with_rule read.same is_rule;
  local = adds.globals ∙ ap₂ (λ a b. a || b) read.local local;
}

-- A subcommand more is one shape more.
pub adds_subcommand : (app below : App) (old sub new : Command) → IsRead app old → IsRead below sub → AddsSubcommand old sub new
    → IsRead (with_subcommand app below.top) new
adds_subcommand app below old sub new read sub_read adds = record {
  same = adds.shape sub_read.local ∙ ap₂ with_subcommand read.same (ap (λ (a : App). a.top) sub_read.same);
  local = adds.globals ∙ ap₂ (λ a b. a || b) read.local sub_read.local;
}

-- A command into which k + 1 items of a list are folded is that of k items with the next one.
pub one_more : {X A : Type 0} → (f : App → A → App) (start : App) (seen : X → A) (xs : List X) (k : ℕ) (d : X) (command : Command) → k < length xs
    → IsRead (f (fold f start (map seen (take k xs))) (seen (get_or xs k d))) command → IsRead (fold f start (map seen (take (k + 1) xs))) command
one_more f start seen xs k d command inside read =
    let x = get_or xs k d in
    let e : fold f start (map seen (take (k + 1) xs)) ≡ f (fold f start (map seen (take k xs))) (seen x)
    = ap (λ t. fold f start (map seen t)) (take_more xs k d inside) ∙ ap (fold f start) (map-append seen (take k xs) (x ∷ [])) ∙ fold_push f start (map seen (take k xs)) (seen x) in
    rw e read

-- After the last row the command is the program's.
pub all_taken : (xs : List Row) (k : ℕ) (command : Command) → length xs ≤ k → map row_seen xs ≡ listings
    → IsRead (fold with_row bare_app (map row_seen (take k xs))) command → IsRead program_app command
unfolding program_app
all_taken xs k command all rows read =
    let whole : take k xs ≡ xs = take_all k xs all in
    let e : fold with_row bare_app (map row_seen (take k xs)) ≡ fold with_row bare_app listings = ap (λ t. fold with_row bare_app (map row_seen t)) whole ∙ ap (fold with_row bare_app) rows in
    rw (← e) read
