-- One word at a time: what `clap` makes of each word after a subcommand. A walk is where the parse
-- is: what it holds, what it waits for, and at which position the next name counts. A use is an
-- argument with the text that it was given. clap keeps the last use until the next word, and
-- settles it then. For WordKinds, Walks, Readings, Subcommands and TopWords.
use Rattle.std.proofs.Common.{◌≡◌, ℕ, zero, suc, ◌+◌, ◌<◌, Bool, true, false, List, [], ◌∷◌, ◌++◌, map, length, min, Option, Some, None, refl, ap, ◌∙◌, arith, codes}
use Rattle.std.proofs.Math.Bool.{and-false}
use Rattle.std.specs.List.{slice_get}
use Rattle.std.specs.Str.{bytes_eq, chars}
use Rattle.clap.specs.Kinds.{Kinds, or_else}
use Rattle.clap.specs.Lexer.{long_of, short_of, usize_max}
use Rattle.clap.specs.Faults.{bundle_fault, flags_fault, repeat_fault, settle_fault, step_fault, turn_fault, use_fault, word_fault}
use Rattle.clap.specs.Simple.{Shape, filled, new_shape}
use Rattle.clap.specs.Walk.{Held, Row, Rule, Text, Waiting, Walk, action_of, arg_by_id, arg_by_index, arg_by_long, arg_by_short, idle, is_append, is_empty, most_values, option, positional, settled_rows, subcommand_met, takes_several, takes_values, used, walked, with_values, without, word_met}
use Rattle.clap.specs.declared.builder.value_parser.Reading.TheVariants.{AsWritten}
use Rattle.clap.specs.declared.parser.matches.ValueSource.TheVariants.{CommandLine}
use Rattle.clap_reading.specs.Grammar.{option_rule}
use Rattle.clap_reading.proofs.Uses.{Used, has_row-uses, row_of_use, same_bytes, used-uses, value_in}

-- A subcommand that is built, without further ones.
abbrev pub leaf : Text → List Rule → Shape
leaf name rules = record (new_shape name) {
  rules = rules;
  disable_help_flag = true;
  disable_help_subcommand = true;
  is_built = true;
}

-- lists of kinds

-- The first kinds of two lists, of which the second is empty, are those of the first.
pub or_else-none : (a : Kinds) → or_else a [] ≡ a
or_else-none [] = refl
or_else-none (k ∷ ks) = refl

-- If the first list has a kind, the two together have one.
pub first_some : (a b : Kinds) → is_empty a ≡ false → is_empty (or_else a b) ≡ false
first_some [] b some = cc
first_some (k ∷ ks) b some = some

-- An argument that takes one text, once.
pub record IsOnce (a : Rule) : Type 0 where
  -- A use of the argument replaces what it was given.
  pub takes : (text : Text) (rows : List Row) → used a (text ∷ []) rows ≡ with_values a.id AsWritten CommandLine (text ∷ []) (without a.id rows)
  -- A use of the argument with a text fails only if it was used before.
  pub faults : (text : Text) (rows : List Row) → use_fault false a (text ∷ []) rows ≡ repeat_fault false a.id rows
  -- A use of the argument without a text fails.
  pub needs : (rows : List Row) → is_empty (use_fault false a [] rows) ≡ false
  -- the argument takes a text
  pub valued : takes_values a ≡ true
  -- the argument does not take several texts
  pub several : takes_several a ≡ false
  -- a second text is not added to the first
  pub single : is_append (action_of a) ≡ false
  -- one use has one text at most
  pub most : most_values a ≡ 1
  -- the argument does not take all words that follow
  pub closed : a.trailing_var_arg ≡ false

-- The last use, as clap keeps it until the next word.
abbrev pub pending_text : Option Used → Option (Text × List Text)
pending_text None = None
pending_text (Some one) = Some (one.0, one.1 ∷ [])

-- What the parse holds: the uses that are settled, and the last one, which is not.
abbrev pub held_at : List Used → Option Used → Held
held_at done last = record { rows = map row_of_use done; pending = pending_text last; skip = 0 }

-- A walk that waits for nothing. `trailing` says that `--` was met.
abbrev pub at_rest : List Used → Option Used → ℕ → Bool → Walk
at_rest done last position trailing =
    record { held = held_at done last; waiting = idle; position = position; is_trailing = trailing; stopped = None }

-- All uses, with the last one.
abbrev pub all_uses : List Used → Option Used → List Used
all_uses done None = done
all_uses done (Some one) = done ++ one ∷ []

-- The last use is of an argument of the subcommand that takes one text and was not used before.
pub record SettlesOne (c : List Rule) (done : List Used) (one : Used) : Type 0 where
  -- the rule of that argument
  pub rule : Rule
  -- it is found by the argument's name
  pub found : arg_by_id c one.0 ≡ Some rule
  -- it has that name
  pub same : rule.id ≡ one.0
  -- the argument takes one text, once
  pub once : IsOnce rule
  -- it was not used before
  pub fresh : value_in one.0 done ≡ None

-- The last use, if there is one, settles.
abbrev pub Settles : List Rule → List Used → Option Used → Type 0
Settles c done None = Unit {0}
Settles c done (Some one) = SettlesOne c done one

-- The rows of clap after the last use is settled.
abbrev pub rows_at_rest : List Rule → List Used → Option Used → List Row
rows_at_rest c done last = settled_rows c (pending_text last) (map row_of_use done)

-- An argument that was not used is not repeated.
no_row : (id : Text) (done : List Used) → value_in id done ≡ None → repeat_fault false id (map row_of_use done) ≡ []
no_row id done none = rw (has_row-uses id done, none) refl

-- A first use adds its row.
pub used_once : (a : Rule) (once : IsOnce a) (id text : Text) (done : List Used) → a.id ≡ id → value_in id done ≡ None
    → used a (text ∷ []) (map row_of_use done) ≡ map row_of_use (done ++ (id, text) ∷ [])
used_once a once id text done same none =
    once.takes text (map row_of_use done) ∙ rw same (used-uses id text done none)

-- A first use has no fault.
pub fault_once : (a : Rule) (once : IsOnce a) (id text : Text) (done : List Used) → a.id ≡ id → value_in id done ≡ None
    → use_fault false a (text ∷ []) (map row_of_use done) ≡ []
fault_once a once id text done same none = once.faults text (map row_of_use done) ∙ rw same (no_row id done none)

-- A second use of an argument is a fault.
pub fault_twice : (a : Rule) (once : IsOnce a) (id text earlier : Text) (done : List Used) → a.id ≡ id → value_in id done ≡ Some earlier
    → is_empty (use_fault false a (text ∷ []) (map row_of_use done)) ≡ false
fault_twice a once id text earlier done same some =
    ap is_empty (once.faults text (map row_of_use done) ∙ ap (λ i. repeat_fault false i (map row_of_use done)) same)
    ∙ rw (has_row-uses id done, some) refl

-- The settled rows are those of all uses.
pub settled_at_rest : (c : List Rule) (done : List Used) (last : Option Used) → Settles c done last → rows_at_rest c done last ≡ map row_of_use (all_uses done last)
settled_at_rest c done None settles = refl
settled_at_rest c done (Some one) settles = rw settles.found (used_once settles.rule settles.once one.0 one.1 done settles.same settles.fresh)

-- To settle the last use has no fault.
pub settles_freely : (c : List Rule) (done : List Used) (last : Option Used) → Settles c done last → settle_fault c false (held_at done last) ≡ []
settles_freely c done None settles = refl
settles_freely c done (Some one) settles = rw settles.found (fault_once settles.rule settles.once one.0 one.1 done settles.same settles.fresh)

-- A word that may be a name: it is not `--`, and no option.
pub record IsNameWord (word : Text) : Type 0 where
  -- the word is not `--`
  pub no_dashes : bytes_eq word (codes "--") ≡ false
  -- it is no long option
  pub no_long : long_of word ≡ None
  -- it is no short option
  pub no_short : short_of word ≡ None

-- A word that counts as a name: each one after `--`, else one that may be a name.
abbrev pub GoesToPositional : Bool → Text → Type 0
GoesToPositional true word = Unit {0}
GoesToPositional false word = IsNameWord word

-- a name, at a position that takes one

-- A name at a position that takes one has no fault but that of settling.
pub name_turn : (name : Text) (c : List Rule) (done : List Used) (last : Option Used) (position : ℕ) (trailing : Bool) (word : Text) → GoesToPositional trailing word
    → (a : Rule) → arg_by_index c position ≡ Some a → takes_several a ≡ false
    → turn_fault (leaf name c) [] (at_rest done last position trailing) word ≡ settle_fault c false (held_at done last)
name_turn name c done last position true word goes a found several = rw (found, several, and-false) refl
name_turn name c done last position false word goes a found several =
    rw (goes.no_dashes, goes.no_long, goes.no_short, found, several, and-false) refl

-- After a name at a position that takes one, the walk is at rest, with that use as its last.
pub name_walks : (c : List Rule) (done : List Used) (last : Option Used) (position : ℕ) (trailing : Bool) (word : Text) → GoesToPositional trailing word
    → (a : Rule) → arg_by_index c position ≡ Some a → IsOnce a → (uses : List Used) → rows_at_rest c done last ≡ map row_of_use uses
    → min (position + 1) usize_max ≡ position + 1
    → walked c [] (at_rest done last position trailing) word ≡ at_rest uses (Some (a.id, word)) (position + 1) trailing
unfolding walked
name_walks c done last position true word goes a found once uses rows far =
    rw (found, once.several, once.single, and-false, rows, far) refl
name_walks c done last position false word goes a found once uses rows far =
    rw (goes.no_dashes, goes.no_long, goes.no_short, found, once.several, once.single, once.closed, and-false, rows, far) refl

-- a name where no more is wanted

-- A name too many is a fault.
pub stray_turn : (name : Text) (c : List Rule) (done : List Used) (last : Option Used) (position : ℕ) (trailing : Bool) (word : Text) → GoesToPositional trailing word
    → arg_by_index c position ≡ None → is_empty (turn_fault (leaf name c) [] (at_rest done last position trailing) word) ≡ false
stray_turn name c done last position true word goes none = rw none refl
stray_turn name c done last position false word goes none = rw (goes.no_dashes, goes.no_long, goes.no_short, none) refl

-- `--`

-- `--` has no fault.
pub dashes_turn : (name : Text) (c : List Rule) (done : List Used) (last : Option Used) (position : ℕ) (word : Text) → bytes_eq word (codes "--") ≡ true
    → turn_fault (leaf name c) [] (at_rest done last position false) word ≡ []
dashes_turn name c done last position word dashes = rw dashes refl

-- After `--`, met at rest, each word is a name.
pub dashes_walk : (c : List Rule) (done : List Used) (last : Option Used) (position : ℕ) (word : Text) → bytes_eq word (codes "--") ≡ true
    → walked c [] (at_rest done last position false) word ≡ at_rest done last position true
unfolding walked
dashes_walk c done last position word dashes = rw dashes refl

-- an option and an attached text

-- The rule of an option, as clap fills it in.
abbrev pub option_at : Text → Rule
option_at id = filled (option_rule id)

-- An option with an attached text has the fault of settling, or of its use.
pub attached_turn : (name : Text) (c : List Rule) (opt : Text) (done : List Used) (last : Option Used) (position : ℕ) (word text : Text) → bytes_eq word (codes "--") ≡ false
    → long_of word ≡ Some (opt, Some text) → arg_by_long c opt ≡ Some (option_at opt)
    → turn_fault (leaf name c) [] (at_rest done last position false) word
    ≡ or_else (or_else (settle_fault c false (held_at done last)) (use_fault false (option_at opt) (text ∷ []) (rows_at_rest c done last))) []
attached_turn name c opt done last position word text no_dashes long found = rw (no_dashes, long, found) refl

-- After an option with an attached text the walk is at rest, with all uses settled.
pub attached_walk : (c : List Rule) (opt : Text) (done : List Used) (last : Option Used) (position : ℕ) (word text : Text) → bytes_eq word (codes "--") ≡ false
    → long_of word ≡ Some (opt, Some text) → arg_by_long c opt ≡ Some (option_at opt)
    → (uses : List Used) → used (option_at opt) (text ∷ []) (rows_at_rest c done last) ≡ map row_of_use uses
    → walked c [] (at_rest done last position false) word ≡ at_rest uses None position false
unfolding walked
attached_walk c opt done last position word text no_dashes long found uses rows = rw (no_dashes, long, found, rows) refl

-- an option alone, which waits for its text

-- What the parse holds while an option waits for its text.
abbrev pub held_waiting : Text → List Used → Held
held_waiting opt uses = record { rows = map row_of_use uses; pending = Some (opt, []); skip = 0 }

-- A walk that waits for the text of an option.
abbrev pub at_option : Text → List Used → ℕ → Walk
at_option opt uses position =
    record { held = held_waiting opt uses; waiting = option opt; position = position; is_trailing = false; stopped = None }

-- An option alone has no fault but that of settling.
pub option_turn : (name : Text) (c : List Rule) (opt : Text) (done : List Used) (last : Option Used) (position : ℕ) (word : Text) → bytes_eq word (codes "--") ≡ false
    → long_of word ≡ Some (opt, None) → arg_by_long c opt ≡ Some (option_at opt)
    → turn_fault (leaf name c) [] (at_rest done last position false) word ≡ or_else (settle_fault c false (held_at done last)) []
option_turn name c opt done last position word no_dashes long found = rw (no_dashes, long, found) refl

-- After an option alone the walk waits for its text.
pub option_walk : (c : List Rule) (opt : Text) (done : List Used) (last : Option Used) (position : ℕ) (word : Text) → bytes_eq word (codes "--") ≡ false
    → long_of word ≡ Some (opt, None) → arg_by_long c opt ≡ Some (option_at opt)
    → (uses : List Used) → rows_at_rest c done last ≡ map row_of_use uses
    → walked c [] (at_rest done last position false) word ≡ at_option opt uses position
unfolding walked
option_walk c opt done last position word no_dashes long found uses rows = rw (no_dashes, long, found, rows) refl

-- The text that is waited for has no fault.
pub text_turn : (name : Text) (c : List Rule) (opt : Text) (uses : List Used) (position : ℕ) (word : Text) → IsNameWord word
    → turn_fault (leaf name c) [] (at_option opt uses position) word ≡ []
text_turn name c opt uses position word goes = rw (goes.no_dashes, goes.no_long, goes.no_short) refl

-- After the text that is waited for the walk is at rest, with the option's use as its last.
pub text_walk : (c : List Rule) (opt : Text) (uses : List Used) (position : ℕ) (word : Text) → IsNameWord word
    → arg_by_id c opt ≡ Some (option_at opt)
    → walked c [] (at_option opt uses position) word ≡ at_rest uses (Some (opt, word)) position false
unfolding walked
text_walk c opt uses position word goes found = rw (goes.no_dashes, goes.no_long, goes.no_short, found, same_bytes opt) refl

-- The walk after `--` while an option waits for its text.
abbrev pub at_option_trailing : Text → List Used → ℕ → Walk
at_option_trailing opt uses position = record (at_option opt uses position) { is_trailing = true }

-- `--` has no fault while an option waits for its text.
pub waiting_dashes_turn : (name : Text) (c : List Rule) (opt : Text) (uses : List Used) (position : ℕ) (word : Text) → bytes_eq word (codes "--") ≡ true
    → turn_fault (leaf name c) [] (at_option opt uses position) word ≡ []
waiting_dashes_turn name c opt uses position word dashes = rw dashes refl

-- After `--`, met while an option waits for its text, the walk still waits for the text.
pub waiting_dashes_walk : (c : List Rule) (opt : Text) (uses : List Used) (position : ℕ) (word : Text) → bytes_eq word (codes "--") ≡ true
    → walked c [] (at_option opt uses position) word ≡ at_option_trailing opt uses position
unfolding walked
waiting_dashes_walk c opt uses position word dashes = rw dashes refl

-- Any walk that goes on, and a word that is no name

-- Any walk that goes on.
abbrev pub going : Held → Waiting → ℕ → Bool → Walk
going held waiting position trailing = record { held = held; waiting = waiting; position = position; is_trailing = trailing; stopped = None }

-- A word after a subcommand meets no further one.
pub no_subcommand : (waiting : Waiting) (word : Text) → subcommand_met [] waiting word ≡ None
no_subcommand idle word = refl
no_subcommand (option id) word = refl
no_subcommand positional word = refl

-- Short options are faults, as no subcommand has one.
flags_fail : (c : List Rule) (held : Held) (flags : Text) (first n k : ℕ) → slice_get (chars flags) 0 ≡ Some first → ((x : ℕ) → arg_by_short c x ≡ None) → k ≡ 0
    → is_empty (flags_fault c false (suc n) flags k held) ≡ false
unfolding flags_fault
flags_fail c held flags first n zero char none e = rw (char, none first) refl
flags_fail c held flags first n (suc k) char none e = absurd (omega arith)

-- A word of several short options is a fault.
pub bundle_fails : (c : List Rule) (held : Held) (flags : Text) (first : ℕ) → slice_get (chars flags) 0 ≡ Some first → held.skip ≡ 0 → 0 < length flags
    → ((x : ℕ) → arg_by_short c x ≡ None) → is_empty (bundle_fault c false flags held) ≡ false
bundle_fails c held [] first char skip some none = absurd (omega arith)
bundle_fails c held (flag ∷ flags) first char skip some none =
    flags_fail c (record held { skip = 0 }) (flag ∷ flags) first (length flags) held.skip char none skip

-- An option that the subcommand does not have is a fault.
pub unknown_turn : (name : Text) (c : List Rule) (held : Held) (waiting : Waiting) (position : ℕ) (word option_name : Text) (text : Option Text) → bytes_eq word (codes "--") ≡ false
    → long_of word ≡ Some (option_name, text) → arg_by_long c option_name ≡ None
    → is_empty (turn_fault (leaf name c) [] (going held waiting position false) word) ≡ false
unknown_turn name c held idle position word option_name text no_dashes long found = rw (no_dashes, long, found) refl
unknown_turn name c held (option id) position word option_name text no_dashes long found = rw (no_dashes, long, found) refl
unknown_turn name c held positional position word option_name text no_dashes long found = rw (no_dashes, long, found) refl

-- A word of short options is a fault.
pub short_turn : (name : Text) (c : List Rule) (held : Held) (waiting : Waiting) (position : ℕ) (word flags : Text) (first : ℕ) → bytes_eq word (codes "--") ≡ false
    → long_of word ≡ None → short_of word ≡ Some flags → slice_get (chars flags) 0 ≡ Some first → held.skip ≡ 0 → 0 < length flags
    → ((x : ℕ) → arg_by_short c x ≡ None)
    → is_empty (turn_fault (leaf name c) [] (going held waiting position false) word) ≡ false
short_turn name c held waiting position word flags first no_dashes long short char skip some none =
    first_some (word_fault (leaf name c) [] false waiting word held)
    (step_fault (leaf name c) position (word_met c [] false waiting position word held).0 (word_met c [] false waiting position word held).1)
    (rw (no_subcommand waiting word, no_dashes, long, short) (bundle_fails c held flags first char skip some none))

-- After `--` each word is a name, in any walk.
pub dashes_going : (c : List Rule) (held : Held) (position : ℕ) (word : Text) → bytes_eq word (codes "--") ≡ true
    → walked c [] (going held idle position false) word ≡ going held idle position true
unfolding walked
dashes_going c held position word dashes = rw dashes refl
