-- The arguments of each subcommand, and how its reading ends. Five kinds: those of a pair (left and
-- right, and settings that may be left out), of a tape (and settings that may be left out), of a
-- text of zones (and a pair that may be left out), of one word, and of no word. A use is an argument with the text that it was given. For TopWords.
use Rattle.std.proofs.Common.{◌≡◌, ℕ, ◌+◌, ◌<◌, inl, inr, Bool, true, false, ◌&&◌, ◌||◌, not, cond, List, [], ◌∷◌, ◌++◌, map, length, Option, Some, None, is_some, refl, sym, ap, subst, ◌∙◌, arith, codes}
use Rattle.std.proofs.Math.Bool.{or-true}
use Rattle.std.specs.Prelude.{nat_eq}
use Rattle.std.specs.Option.{option_map_or}
use Rattle.std.specs.List.{find, fold, list_all, list_any, slice_get, zip}
use Rattle.std.specs.Str.{bytes_eq}
use Rattle.std.proofs.lemmas.Bool.{and_parts}
use Rattle.clap.specs.Kinds.{Kinds, or_else}
use Rattle.clap.specs.Faults.{default_fault, defaults_fault}
use Rattle.clap.specs.Simple.{filled, with_index}
use Rattle.clap.specs.Takes.{is_given}
use Rattle.clap.specs.Walk.{Row, Rule, Text, arg_by_id, arg_by_index, arg_by_long, arg_by_short, first_of, has_row, is_empty, takes_several, with_default}
use Rattle.clap_reading.specs.ClapReading.{command_from, command_in, names_of, text_at, texts_at}
use Rattle.clap_reading.specs.Grammar.{further_rule, name_rule}
use Rattle.command_words.specs.Listed.{OptionTextsView, command_given, command_of, takes_words, text_for, text_in, texts_for}
use Rattle.command_words.specs.Table.{Listing, listing, pair_words, settings_word}
use Rattle.command_words.specs.declared.table.Task.{Task}
use Rattle.command_words.specs.declared.command.Command.{Command}
use Rattle.clap_reading.proofs.Readings.{check_of}
use Rattle.clap_reading.proofs.Steps.{IsOnce, option_at, or_else-none}
use Rattle.clap_reading.proofs.Stories.{Ending, Story, checked, faulty, value_of_name, value_of_option}
use Rattle.clap_reading.proofs.Uses.{Used, first_of-uses, is_given-uses, is_known, row_of_use, same_text, unknown_differs, value_in}
use Rattle.clap_reading.proofs.Walks.{Arguments, RuleAt}

-- The rule of the word at this position, as clap fills it in.
abbrev pub name_at : ℕ → Text → Rule
name_at position id = with_index position (filled (name_rule id))

-- The rule of the word at this position that may be left out, as clap fills it in.
abbrev pub further_at : ℕ → Text → Rule
further_at position id = with_index position (filled (further_rule id))

-- A word by its position takes one text, once.
name_once : (position : ℕ) (id : Text) → IsOnce (name_at position id)
name_once position id = record {
  takes = λ text rows. refl;
  faults = λ text rows. or_else-none _;
  needs = λ rows. refl;
  valued = refl;
  several = refl;
  single = refl;
  most = refl;
  closed = refl;
}

-- A word that may be left out takes one text by its position, once.
further_once : (position : ℕ) (id : Text) → IsOnce (further_at position id)
further_once position id = record {
  takes = λ text rows. refl;
  faults = λ text rows. or_else-none _;
  needs = λ rows. refl;
  valued = refl;
  several = refl;
  single = refl;
  most = refl;
  closed = refl;
}

-- The rule is that of this position.
abbrev at_position : ℕ → Rule → Bool
at_position position a = option_map_or (λ k. nat_eq k position) a.index false

-- If no rule takes several texts, the one that is found does not.
once_found : (test : Rule → Bool) (c : List Rule) (a : Rule) → list_all (λ a. not (takes_several a)) c ≡ true → find test c ≡ Some a → takes_several a ≡ false
once_found test [] a all found = cc
once_found test (b ∷ c) a all found =
    let parts = and_parts (not (takes_several b)) (list_all (λ a. not (takes_several a)) c) all in
    let here : (passes : Bool) → cond passes (Some b) (find test c) ≡ Some a → takes_several a ≡ false
    = elim [ true ↦ λ e. let same : b ≡ a = cc in rw (← same) (is_false (takes_several b) parts.0) | false ↦ λ e. once_found test c a parts.1 e ] in
    here (test b) found
  where
    is_false : (b : Bool) → not b ≡ true → b ≡ false
    is_false true e = cc
    is_false false e = refl

-- None of these rules has a default.
abbrev pub NoDefaults : List Rule → Type 0
NoDefaults [] = Unit {0}
NoDefaults (a ∷ c) = (a.defaults ≡ []) × NoDefaults c

-- A rule without a default adds no row.
default_stays : (rows : List Row) (a : Rule) → a.defaults ≡ [] → with_default rows a ≡ rows
default_stays rows a none = rw none (elim (has_row a.id rows) as (λ b. cond b rows rows ≡ rows) [ true ↦ refl | false ↦ refl ])

-- Rules without defaults add no rows.
defaults_stay : (c : List Rule) → NoDefaults c → (rows : List Row) → fold with_default rows c ≡ rows
defaults_stay [] none rows = refl
defaults_stay (a ∷ c) none rows = ap (λ more. fold with_default more c) (default_stays rows a none.0) ∙ defaults_stay c none.1 rows

-- A rule without a default has no fault of it.
default_passes : (rows : List Row) (a : Rule) → a.defaults ≡ [] → default_fault rows a ≡ []
default_passes rows a none = rw (none, or-true) refl

-- Rules without defaults have no fault of them.
defaults_pass : (c : List Rule) → NoDefaults c → (rows : List Row) → defaults_fault rows c ≡ []
unfolding defaults_fault
defaults_pass [] none rows = refl
defaults_pass (a ∷ c) none rows =
    ap (λ first. or_else first (defaults_fault (with_default rows a) c)) (default_passes rows a none.0) ∙ defaults_pass c none.1 (with_default rows a)

-- The rules of the options

-- The rules of the options of a subcommand.
abbrev pub option_rules : List Text → List Rule
option_rules options = map option_at options

-- A known option is found by its name.
by_long : (options : List Text) (id : Text) → is_known options id ≡ true → arg_by_long (option_rules options) id ≡ Some (option_at id)
by_long [] id is = cc
by_long (own ∷ options) id is = here (by_long options id) (bytes_eq own id) refl is
  where
    here : (is_known options id ≡ true → arg_by_long (option_rules options) id ≡ Some (option_at id)) → (b : Bool) → bytes_eq own id ≡ b → (b || is_known options id) ≡ true
        → arg_by_long (option_rules (own ∷ options)) id ≡ Some (option_at id)
    here again true same _ = rw same (ap (λ x. Some (option_at x)) (same_text own id same))
    here again false other later = rw other (again later)

-- A name that is no option's finds no rule among those of the options.
by_no_long : (options : List Text) (id : Text) → is_known options id ≡ false → arg_by_long (option_rules options) id ≡ None
by_no_long [] id other = refl
by_no_long (own ∷ options) id other = here (by_no_long options id) (bytes_eq own id) refl other
  where
    here : (is_known options id ≡ false → arg_by_long (option_rules options) id ≡ None) → (b : Bool) → bytes_eq own id ≡ b → (b || is_known options id) ≡ false
        → arg_by_long (option_rules (own ∷ options)) id ≡ None
    here again true same never = cc
    here again false other later = rw other (again later)

-- A known option is found by its identifier, which is its name.
by_id : (options : List Text) (id : Text) → is_known options id ≡ true → arg_by_id (option_rules options) id ≡ Some (option_at id)
by_id [] id is = cc
by_id (own ∷ options) id is = here (by_id options id) (bytes_eq own id) refl is
  where
    here : (is_known options id ≡ true → arg_by_id (option_rules options) id ≡ Some (option_at id)) → (b : Bool) → bytes_eq own id ≡ b → (b || is_known options id) ≡ true
        → arg_by_id (option_rules (own ∷ options)) id ≡ Some (option_at id)
    here again true same _ = rw same (ap (λ x. Some (option_at x)) (same_text own id same))
    here again false other later = rw other (again later)

-- No option is found by a position.
by_index : (options : List Text) (position : ℕ) → arg_by_index (option_rules options) position ≡ None
by_index [] position = refl
by_index (own ∷ options) position = by_index options position

-- No option is found by one letter.
by_short : (options : List Text) (x : ℕ) → arg_by_short (option_rules options) x ≡ None
by_short [] x = refl
by_short (own ∷ options) x = by_short options x

-- No option takes several texts.
single : (options : List Text) → list_all (λ a. not (takes_several a)) (option_rules options) ≡ true
single [] = refl
single (own ∷ options) = single options

-- No option has a default.
no_defaults : (options : List Text) → NoDefaults (option_rules options)
no_defaults [] = tt
no_defaults (own ∷ options) = (refl, no_defaults options)

-- No option must be given.
none_required : (options : List Text) (rows : List Row) → list_any (λ a. a.required && not (is_given a.id rows)) (option_rules options) ≡ false
none_required [] rows = refl
none_required (own ∷ options) rows = none_required options rows

-- The rules of the words

-- The words of a pair: left, right and settings.
abbrev pub pair_ids : List Text
pair_ids = pair_words ++ settings_word

-- The words of a command of a tape: the tape and its settings.
abbrev pub tape_ids : List Text
tape_ids = codes "tape" ∷ settings_word

-- The rules of a command of a tape, with these options.
abbrev pub tape_rules : List Text → List Rule
tape_rules options = name_at 1 (codes "tape") ∷ further_at 2 (codes "settings") ∷ option_rules options

-- No option has the name of one of these words.
pub record AreTapeNames (options : List Text) : Type 0 where
  -- no option is called `tape`
  pub tape : is_known options (codes "tape") ≡ false
  -- no option is called `settings`
  pub settings : is_known options (codes "settings") ≡ false

-- The rules of a command of a pair, with these options.
abbrev pub pair_rules : List Text → List Rule
pair_rules options = name_at 1 (codes "left") ∷ name_at 2 (codes "right") ∷ further_at 3 (codes "settings") ∷ option_rules options

-- No option has the name of one of these words.
pub record ArePairNames (options : List Text) : Type 0 where
  -- no option is called `left`
  pub left : is_known options (codes "left") ≡ false
  -- no option is called `right`
  pub right : is_known options (codes "right") ≡ false
  -- no option is called `settings`
  pub settings : is_known options (codes "settings") ≡ false

-- The words of a command of zones: their text, and a pair of which all may be left out.
abbrev pub zones_ids : List Text
zones_ids = codes "zones" ∷ pair_ids

-- The rules of a command of zones, with these options.
abbrev pub zones_rules : List Text → List Rule
zones_rules options =
    name_at 1 (codes "zones") ∷ further_at 2 (codes "left") ∷ further_at 3 (codes "right") ∷ further_at 4 (codes "settings")
    ∷ option_rules options

-- No option has the name of one of these words.
pub record AreZonesNames (options : List Text) : Type 0 where
  -- no option is called `zones`
  pub zones : is_known options (codes "zones") ≡ false
  -- no option is called as a word of a pair
  pub pair : ArePairNames options

-- The one word of a command.
abbrev pub one_id : Text → List Text
one_id id = id ∷ []

-- The rules of a command of one word, with these options.
abbrev pub one_rules : Text → List Text → List Rule
one_rules id options = name_at 1 id ∷ option_rules options

-- The word's name is none of the options'.
pub record IsWordName (options : List Text) (id : Text) : Type 0 where
  -- the name equals itself byte by byte
  pub own : bytes_eq id id ≡ true
  -- no option has the name
  pub free : is_known options id ≡ false

-- What holds of one name holds of an equal one.
as_id : (P : Text → Type 0) (a b : Text) → Some a ≡ Some b → P a → P b
as_id P a b e p = let same : a ≡ b = cc in subst P same p

-- The next word of a pair has no option's name.
pair_named : (options : List Text) → ArePairNames options → (names : List Text) (id : Text) → slice_get pair_ids (length names) ≡ Some id → is_known options id ≡ false
pair_named options free [] id e = as_id (λ id. is_known options id ≡ false) (codes "left") id e free.left
pair_named options free (a ∷ []) id e = as_id (λ id. is_known options id ≡ false) (codes "right") id e free.right
pair_named options free (a ∷ b ∷ []) id e = as_id (λ id. is_known options id ≡ false) (codes "settings") id e free.settings
pair_named options free (a ∷ b ∷ c ∷ names) id e = cc

-- The next word of a pair was not given before.
pair_fresh : (names : List Text) (id : Text) → slice_get pair_ids (length names) ≡ Some id → value_in id (zip pair_ids names) ≡ None
pair_fresh [] id e = refl
pair_fresh (a ∷ []) id e = as_id (λ id. value_in id (zip pair_ids (a ∷ [])) ≡ None) (codes "right") id e refl
pair_fresh (a ∷ b ∷ []) id e = as_id (λ id. value_in id (zip pair_ids (a ∷ b ∷ [])) ≡ None) (codes "settings") id e refl
pair_fresh (a ∷ b ∷ c ∷ names) id e = cc

-- The next word of a pair has its rule at its position.
pair_at : (options names : List Text) (id : Text) → slice_get pair_ids (length names) ≡ Some id → RuleAt (pair_rules options) id (length names + 1)
pair_at options [] id e = as_id (λ id. RuleAt (pair_rules options) id 1) (codes "left") id e (record { rule = name_at 1 (codes "left"); at = refl; same = refl; once = name_once 1 (codes "left"); found = refl })
pair_at options (a ∷ []) id e = as_id (λ id. RuleAt (pair_rules options) id 2) (codes "right") id e (record { rule = name_at 2 (codes "right"); at = refl; same = refl; once = name_once 2 (codes "right"); found = refl })
pair_at options (a ∷ b ∷ []) id e = as_id (λ id. RuleAt (pair_rules options) id 3) (codes "settings") id e (record { rule = further_at 3 (codes "settings"); at = refl; same = refl; once = further_once 3 (codes "settings"); found = refl })
pair_at options (a ∷ b ∷ c ∷ names) id e = cc

-- The arguments of a command of a pair are as the walk needs them.
pub pair_arguments : (options : List Text) → ArePairNames options → Arguments (pair_rules options) pair_ids options
pair_arguments options free = record {
  at = pair_at options;
  full = λ names e. rw e (by_index options (length names + 1));
  fresh = pair_fresh;
  named = pair_named options free;
  option_long = by_long options;
  option_id = λ id is. rw (
    unknown_differs options (codes "left") id free.left is,
    unknown_differs options (codes "right") id free.right is,
    unknown_differs options (codes "settings") id free.settings is,
  ) (by_id options id is);
  no_long = by_no_long options;
  no_short = by_short options;
  once_at = λ position a found. once_found (at_position position) (pair_rules options) a (single options) found;
  few = omega arith;
  no_default = defaults_stay (pair_rules options) (refl, (refl, (refl, no_defaults options)));
  no_default_fault = defaults_pass (pair_rules options) (refl, (refl, (refl, no_defaults options)));
}

-- The next word of a tape has no option's name.
tape_named : (options : List Text) → AreTapeNames options → (names : List Text) (id : Text) → slice_get tape_ids (length names) ≡ Some id → is_known options id ≡ false
tape_named options free [] id e = as_id (λ id. is_known options id ≡ false) (codes "tape") id e free.tape
tape_named options free (a ∷ []) id e = as_id (λ id. is_known options id ≡ false) (codes "settings") id e free.settings
tape_named options free (a ∷ b ∷ names) id e = cc

-- The next word of a tape was not given before.
tape_fresh : (names : List Text) (id : Text) → slice_get tape_ids (length names) ≡ Some id → value_in id (zip tape_ids names) ≡ None
tape_fresh [] id e = refl
tape_fresh (a ∷ []) id e = as_id (λ id. value_in id (zip tape_ids (a ∷ [])) ≡ None) (codes "settings") id e refl
tape_fresh (a ∷ b ∷ names) id e = cc

-- The next word of a tape has its rule at its position.
tape_at : (options names : List Text) (id : Text) → slice_get tape_ids (length names) ≡ Some id → RuleAt (tape_rules options) id (length names + 1)
tape_at options [] id e = as_id (λ id. RuleAt (tape_rules options) id 1) (codes "tape") id e (record { rule = name_at 1 (codes "tape"); at = refl; same = refl; once = name_once 1 (codes "tape"); found = refl })
tape_at options (a ∷ []) id e = as_id (λ id. RuleAt (tape_rules options) id 2) (codes "settings") id e (record { rule = further_at 2 (codes "settings"); at = refl; same = refl; once = further_once 2 (codes "settings"); found = refl })
tape_at options (a ∷ b ∷ names) id e = cc

-- The arguments of a command of a tape are as the walk needs them.
pub tape_arguments : (options : List Text) → AreTapeNames options → Arguments (tape_rules options) tape_ids options
tape_arguments options free = record {
  at = tape_at options;
  full = λ names e. rw e (by_index options (length names + 1));
  fresh = tape_fresh;
  named = tape_named options free;
  option_long = by_long options;
  option_id = λ id is. rw (
    unknown_differs options (codes "tape") id free.tape is,
    unknown_differs options (codes "settings") id free.settings is,
  ) (by_id options id is);
  no_long = by_no_long options;
  no_short = by_short options;
  once_at = λ position a found. once_found (at_position position) (tape_rules options) a (single options) found;
  few = omega arith;
  no_default = defaults_stay (tape_rules options) (refl, (refl, no_defaults options));
  no_default_fault = defaults_pass (tape_rules options) (refl, (refl, no_defaults options));
}

-- The next word of a command of zones has no option's name.
zones_named : (options : List Text) → AreZonesNames options → (names : List Text) (id : Text) → slice_get zones_ids (length names) ≡ Some id → is_known options id ≡ false
zones_named options free [] id e = as_id (λ id. is_known options id ≡ false) (codes "zones") id e free.zones
zones_named options free (a ∷ []) id e = as_id (λ id. is_known options id ≡ false) (codes "left") id e free.pair.left
zones_named options free (a ∷ b ∷ []) id e = as_id (λ id. is_known options id ≡ false) (codes "right") id e free.pair.right
zones_named options free (a ∷ b ∷ d ∷ []) id e = as_id (λ id. is_known options id ≡ false) (codes "settings") id e free.pair.settings
zones_named options free (a ∷ b ∷ d ∷ f ∷ names) id e = cc

-- The next word of a command of zones was not given before.
zones_fresh : (names : List Text) (id : Text) → slice_get zones_ids (length names) ≡ Some id → value_in id (zip zones_ids names) ≡ None
zones_fresh [] id e = refl
zones_fresh (a ∷ []) id e = as_id (λ id. value_in id (zip zones_ids (a ∷ [])) ≡ None) (codes "left") id e refl
zones_fresh (a ∷ b ∷ []) id e = as_id (λ id. value_in id (zip zones_ids (a ∷ b ∷ [])) ≡ None) (codes "right") id e refl
zones_fresh (a ∷ b ∷ d ∷ []) id e = as_id (λ id. value_in id (zip zones_ids (a ∷ b ∷ d ∷ [])) ≡ None) (codes "settings") id e refl
zones_fresh (a ∷ b ∷ d ∷ f ∷ names) id e = cc

-- The next word of a command of zones has its rule at its position.
zones_at : (options names : List Text) (id : Text) → slice_get zones_ids (length names) ≡ Some id → RuleAt (zones_rules options) id (length names + 1)
zones_at options [] id e = as_id (λ id. RuleAt (zones_rules options) id 1) (codes "zones") id e (record { rule = name_at 1 (codes "zones"); at = refl; same = refl; once = name_once 1 (codes "zones"); found = refl })
zones_at options (a ∷ []) id e = as_id (λ id. RuleAt (zones_rules options) id 2) (codes "left") id e (record { rule = further_at 2 (codes "left"); at = refl; same = refl; once = further_once 2 (codes "left"); found = refl })
zones_at options (a ∷ b ∷ []) id e = as_id (λ id. RuleAt (zones_rules options) id 3) (codes "right") id e (record { rule = further_at 3 (codes "right"); at = refl; same = refl; once = further_once 3 (codes "right"); found = refl })
zones_at options (a ∷ b ∷ d ∷ []) id e = as_id (λ id. RuleAt (zones_rules options) id 4) (codes "settings") id e (record { rule = further_at 4 (codes "settings"); at = refl; same = refl; once = further_once 4 (codes "settings"); found = refl })
zones_at options (a ∷ b ∷ d ∷ f ∷ names) id e = cc

-- The arguments of a command of zones are as the walk needs them.
pub zones_arguments : (options : List Text) → AreZonesNames options → Arguments (zones_rules options) zones_ids options
zones_arguments options free = record {
  at = zones_at options;
  full = λ names e. rw e (by_index options (length names + 1));
  fresh = zones_fresh;
  named = zones_named options free;
  option_long = by_long options;
  option_id = λ id is. rw (
    unknown_differs options (codes "zones") id free.zones is,
    unknown_differs options (codes "left") id free.pair.left is,
    unknown_differs options (codes "right") id free.pair.right is,
    unknown_differs options (codes "settings") id free.pair.settings is,
  ) (by_id options id is);
  no_long = by_no_long options;
  no_short = by_short options;
  once_at = λ position a found. once_found (at_position position) (zones_rules options) a (single options) found;
  few = omega arith;
  no_default = defaults_stay (zones_rules options) (refl, (refl, (refl, (refl, no_defaults options))));
  no_default_fault = defaults_pass (zones_rules options) (refl, (refl, (refl, (refl, no_defaults options))));
}

-- The arguments of a command without words are as the walk needs them.
pub alone_arguments : (options : List Text) → Arguments (option_rules options) [] options
alone_arguments options = record {
  at = λ names id e. cc;
  full = λ names e. by_index options (length names + 1);
  fresh = λ names id e. cc;
  named = λ names id e. cc;
  option_long = by_long options;
  option_id = by_id options;
  no_long = by_no_long options;
  no_short = by_short options;
  once_at = λ position a found. once_found (at_position position) (option_rules options) a (single options) found;
  few = omega arith;
  no_default = defaults_stay (option_rules options) (no_defaults options);
  no_default_fault = defaults_pass (option_rules options) (no_defaults options);
}

-- The one word has its rule at position 1.
one_at : (options : List Text) (id : Text) → IsWordName options id → (names : List Text) (x : Text) → slice_get (one_id id) (length names) ≡ Some x → RuleAt (one_rules id options) x (length names + 1)
one_at options id is [] x e = as_id (λ x. RuleAt (one_rules id options) x 1) id x e (record { rule = name_at 1 id; at = refl; same = refl; once = name_once 1 id; found = rw is.own refl })
one_at options id is (a ∷ names) x e = cc

-- The one word of a command has no option's name.
one_named : (options : List Text) (id : Text) → IsWordName options id → (names : List Text) (x : Text) → slice_get (one_id id) (length names) ≡ Some x → is_known options x ≡ false
one_named options id is [] x e = as_id (λ x. is_known options x ≡ false) id x e is.free
one_named options id is (a ∷ names) x e = cc

-- The arguments of a command of one word are as the walk needs them.
pub one_arguments : (options : List Text) (id : Text) → IsWordName options id → Arguments (one_rules id options) (one_id id) options
one_arguments options id is = record {
  at = one_at options id is;
  full = λ names e. rw e (by_index options (length names + 1));
  fresh = one_fresh id;
  named = one_named options id is;
  option_long = by_long options;
  option_id = λ x known. rw (unknown_differs options id x is.free known) (by_id options x known);
  no_long = by_no_long options;
  no_short = by_short options;
  once_at = λ position a found. once_found (at_position position) (one_rules id options) a (single options) found;
  few = omega arith;
  no_default = defaults_stay (one_rules id options) (refl, no_defaults options);
  no_default_fault = defaults_pass (one_rules id options) (refl, no_defaults options);
}
  where
    one_fresh : (id : Text) (names : List Text) (x : Text) → slice_get (one_id id) (length names) ≡ Some x → value_in x (zip (one_id id) names) ≡ None
    one_fresh id [] x e = refl
    one_fresh id (a ∷ names) x e = cc

-- How each subcommand ends: the last checks and the rows against the listed command

-- The listed command of these names and options.
abbrev pub listed_by : Listing → List Text → List Used → Option Command
listed_by row names marked = command_given row (record { names = names; marked = marked })

-- What all words of a row are called.
abbrev pub ids_of : Listing → List Text
ids_of row = row.words ++ row.further

-- Each ending of the subcommand's parse gives the listed command.
abbrev pub Ends : Listing → List Rule → Type 0
Ends row c = (fault : Kinds) (rows : List Row) (names : List Text) (marked : List Used)
    → Ending (ids_of row) row.options (check_of row.name c) fault rows names marked
    → cond (is_empty fault) (command_in row.name rows) None ≡ listed_by row names marked

-- Too many names give no listed command.
longer : (row : Listing) (names : List Text) (marked : List Used) → length row.words + length row.further < length names
    → None ≡ listed_by row names marked
longer row names marked more =
    let many : takes_words row (length names) ≡ false = grind arith in
    rw many refl

-- A fault gives no command.
fails : (fault : Kinds) (command answer : Option Command) → is_empty fault ≡ false → None ≡ answer → cond (is_empty fault) command None ≡ answer
fails fault command answer e f = rw e f

-- A word was given exactly if a name stands for it.
given_name : (ids options : List Text) (uses : List Used) (names : List Text) (marked : List Used) (id : Text) → Story ids options uses names marked → is_known options id ≡ false
    → is_given id (map row_of_use uses) ≡ is_some (value_in id (zip ids names))
given_name ids options uses names marked id story other = is_given-uses id uses ∙ ap is_some (value_of_name ids options uses names marked id story other)

-- The text of a word that was given is the name that stands for it.
first_name : (ids options : List Text) (uses : List Used) (names : List Text) (marked : List Used) (id : Text) → Story ids options uses names marked → is_known options id ≡ false
    → first_of id (map row_of_use uses) ≡ value_in id (zip ids names)
first_name ids options uses names marked id story other = first_of-uses id uses ∙ value_of_name ids options uses names marked id story other

-- The text of an option is the same by the rows of clap and by the listed reading.
text_same : (row : Listing) (uses : List Used) (names : List Text) (marked : List Used) (id : Text) → Story (ids_of row) row.options uses names marked
    → text_at row id (map row_of_use uses) ≡ text_for row id marked
text_same row uses names marked id story = here (is_known row.options id) refl
  where
    here : (b : Bool) → is_known row.options id ≡ b → cond b (first_of id (map row_of_use uses)) None ≡ cond b (text_in id marked) None
    here true is = first_of-uses id uses ∙ value_of_option (ids_of row) row.options uses names marked id story is
    here false other = refl

-- Four texts that agree one by one are the same four.
four : (a b c d e f g h : Option Text) → a ≡ e → b ≡ f → c ≡ g → d ≡ h
    → ◌≡◌ {A = OptionTextsView} (record { blocks = a; turret1 = b; turret2 = c; outside = d })
    (record { blocks = e; turret1 = f; turret2 = g; outside = h })
four a b c d e f g h x y z w = rw (x, y, z, w) refl

-- The texts of all options are the same by the rows of clap and by the listed reading.
texts_same : (row : Listing) (uses : List Used) (names : List Text) (marked : List Used) → Story (ids_of row) row.options uses names marked
    → texts_at row (map row_of_use uses) ≡ texts_for row marked
texts_same row uses names marked story =
    four _ _ _ _ _ _ _ _ (text_same row uses names marked (codes "blocks") story)
    (text_same row uses names marked (codes "turret1") story) (text_same row uses names marked (codes "turret2") story)
    (text_same row uses names marked (codes "outside") story)

-- A row whose words and options were read gives the listed command.
reads_as : (row : Listing) (uses : List Used) (names : List Text) (marked : List Used) → Story (ids_of row) row.options uses names marked
    → ((given : List Row) → command_in row.name given ≡ command_from given row) → names_of (map row_of_use uses) row ≡ Some names
    → takes_words row (length names) ≡ true → command_in row.name (map row_of_use uses) ≡ listed_by row names marked
reads_as row uses names marked story is all many =
    let listed : listed_by row names marked ≡ command_of row.task names (texts_for row marked) = rw (many, story.once) refl in
    is (map row_of_use uses)
    ∙ (rw all refl ∙ (ap (command_of row.task names) (texts_same row uses names marked story) ∙ sym listed))

-- The command over the rows of the uses is that over clap's rows.
checked_as : (id : Text) (c : List Rule) (fault : Kinds) (rows uses_rows : List Row) (answer : Option Command) → fault ≡ check_of id c uses_rows → rows ≡ uses_rows
    → cond (is_empty (check_of id c uses_rows)) (command_in id uses_rows) None ≡ answer → cond (is_empty fault) (command_in id rows) None ≡ answer
checked_as id c fault rows uses_rows answer e f end = rw (e, f) end

-- The row of a command of a pair.
abbrev pub pair_row : Text → List Text → Task → Listing
pair_row name options what = listing name pair_words settings_word options what

-- Each parse of a command of a pair ends with the listed command.
pub pair_ends : (name : Text) (options : List Text) (what : Task) → ArePairNames options
    → ((given : List Row) → command_in name given ≡ command_from given (pair_row name options what)) → Ends (pair_row name options what) (pair_rules options)
pair_ends name options what free is fault rows [] marked (faulty bad many) = fails fault _ _ bad refl
pair_ends name options what free is fault rows (a ∷ []) marked (faulty bad many) = fails fault _ _ bad refl
pair_ends name options what free is fault rows (a ∷ b ∷ []) marked (faulty bad (inl many)) = absurd (omega (arith, many))
pair_ends name options what free is fault rows (a ∷ b ∷ []) marked (faulty bad (inr twice)) = fails fault _ _ bad (rw twice refl)
pair_ends name options what free is fault rows (a ∷ b ∷ d ∷ []) marked (faulty bad (inl many)) = absurd (omega (arith, many))
pair_ends name options what free is fault rows (a ∷ b ∷ d ∷ []) marked (faulty bad (inr twice)) = fails fault _ _ bad (rw twice refl)
pair_ends name options what free is fault rows (a ∷ b ∷ d ∷ e ∷ names) marked (faulty bad many) =
    fails fault _ _ bad (longer (pair_row name options what) (a ∷ b ∷ d ∷ e ∷ names) marked (omega arith))
pair_ends name options what free is fault rows [] marked (checked uses story f g) =
    checked_as name (pair_rules options) fault rows (map row_of_use uses) None f g (rw (given_name pair_ids options uses [] marked (codes "left") story free.left) refl)
pair_ends name options what free is fault rows (a ∷ []) marked (checked uses story f g) =
    checked_as name (pair_rules options) fault rows (map row_of_use uses) None f g
    (rw (
      given_name pair_ids options uses (a ∷ []) marked (codes "left") story free.left,
      given_name pair_ids options uses (a ∷ []) marked (codes "right") story free.right,
    ) refl)
pair_ends name options what free is fault rows (a ∷ b ∷ []) marked (checked uses story f g) =
    let row = pair_row name options what in
    let names = a ∷ b ∷ [] in
    let all : names_of (map row_of_use uses) row ≡ Some names
    = rw (
      first_name pair_ids options uses names marked (codes "left") story free.left,
      first_name pair_ids options uses names marked (codes "right") story free.right,
      first_name pair_ids options uses names marked (codes "settings") story free.settings,
    ) refl in
    checked_as name (pair_rules options) fault rows (map row_of_use uses) (listed_by row names marked) f g
    (rw (
      given_name pair_ids options uses names marked (codes "left") story free.left,
      given_name pair_ids options uses names marked (codes "right") story free.right,
      none_required options (map row_of_use uses),
    ) (reads_as row uses names marked story is all refl))
pair_ends name options what free is fault rows (a ∷ b ∷ d ∷ []) marked (checked uses story f g) =
    let row = pair_row name options what in
    let names = a ∷ b ∷ d ∷ [] in
    let all : names_of (map row_of_use uses) row ≡ Some names
    = rw (
      first_name pair_ids options uses names marked (codes "left") story free.left,
      first_name pair_ids options uses names marked (codes "right") story free.right,
      first_name pair_ids options uses names marked (codes "settings") story free.settings,
    ) refl in
    checked_as name (pair_rules options) fault rows (map row_of_use uses) (listed_by row names marked) f g
    (rw (
      given_name pair_ids options uses names marked (codes "left") story free.left,
      given_name pair_ids options uses names marked (codes "right") story free.right,
      none_required options (map row_of_use uses),
    ) (reads_as row uses names marked story is all refl))
pair_ends name options what free is fault rows (a ∷ b ∷ d ∷ e ∷ names) marked (checked uses story f g) = absurd (omega (arith, story.few_names))

-- The row of a command of a tape.
abbrev pub tape_row : Text → List Text → Task → Listing
tape_row name options what = listing name (codes "tape" ∷ []) settings_word options what

-- Each parse of a command of a tape ends with the listed command.
pub tape_ends : (name : Text) (options : List Text) (what : Task) → AreTapeNames options
    → ((given : List Row) → command_in name given ≡ command_from given (tape_row name options what)) → Ends (tape_row name options what) (tape_rules options)
tape_ends name options what free is fault rows [] marked (faulty bad many) = fails fault _ _ bad refl
tape_ends name options what free is fault rows (a ∷ []) marked (faulty bad (inl many)) = absurd (omega (arith, many))
tape_ends name options what free is fault rows (a ∷ []) marked (faulty bad (inr twice)) = fails fault _ _ bad (rw twice refl)
tape_ends name options what free is fault rows (a ∷ b ∷ []) marked (faulty bad (inl many)) = absurd (omega (arith, many))
tape_ends name options what free is fault rows (a ∷ b ∷ []) marked (faulty bad (inr twice)) = fails fault _ _ bad (rw twice refl)
tape_ends name options what free is fault rows (a ∷ b ∷ d ∷ names) marked (faulty bad many) =
    fails fault _ _ bad (longer (tape_row name options what) (a ∷ b ∷ d ∷ names) marked (omega arith))
tape_ends name options what free is fault rows [] marked (checked uses story f g) =
    checked_as name (tape_rules options) fault rows (map row_of_use uses) None f g (rw (given_name tape_ids options uses [] marked (codes "tape") story free.tape) refl)
tape_ends name options what free is fault rows (a ∷ []) marked (checked uses story f g) =
    let row = tape_row name options what in
    let names = a ∷ [] in
    let all : names_of (map row_of_use uses) row ≡ Some names
    = rw (
      first_name tape_ids options uses names marked (codes "tape") story free.tape,
      first_name tape_ids options uses names marked (codes "settings") story free.settings,
    ) refl in
    checked_as name (tape_rules options) fault rows (map row_of_use uses) (listed_by row names marked) f g
    (rw (
      given_name tape_ids options uses names marked (codes "tape") story free.tape,
      none_required options (map row_of_use uses),
    ) (reads_as row uses names marked story is all refl))
tape_ends name options what free is fault rows (a ∷ b ∷ []) marked (checked uses story f g) =
    let row = tape_row name options what in
    let names = a ∷ b ∷ [] in
    let all : names_of (map row_of_use uses) row ≡ Some names
    = rw (
      first_name tape_ids options uses names marked (codes "tape") story free.tape,
      first_name tape_ids options uses names marked (codes "settings") story free.settings,
    ) refl in
    checked_as name (tape_rules options) fault rows (map row_of_use uses) (listed_by row names marked) f g
    (rw (
      given_name tape_ids options uses names marked (codes "tape") story free.tape,
      none_required options (map row_of_use uses),
    ) (reads_as row uses names marked story is all refl))
tape_ends name options what free is fault rows (a ∷ b ∷ d ∷ names) marked (checked uses story f g) = absurd (omega (arith, story.few_names))

-- The row of a command of zones.
abbrev pub zones_row : Text → List Text → Task → Listing
zones_row name options what = listing name (codes "zones" ∷ []) (pair_words ++ settings_word) options what

-- A parse of a command of zones that gave these names, the text of zones among them, ends with the
-- listed command.
zones_checked : (name : Text) (options : List Text) (what : Task) → AreZonesNames options
    → ((given : List Row) → command_in name given ≡ command_from given (zones_row name options what))
    → (fault : Kinds) (rows : List Row) (names : List Text) (marked : List Used) (uses : List Used)
    → Story zones_ids options uses names marked → fault ≡ check_of name (zones_rules options) (map row_of_use uses) → rows ≡ map row_of_use uses
    → names_of (map row_of_use uses) (zones_row name options what) ≡ Some names
    → is_some (value_in (codes "zones") (zip zones_ids names)) ≡ true → takes_words (zones_row name options what) (length names) ≡ true
    → cond (is_empty fault) (command_in name rows) None ≡ listed_by (zones_row name options what) names marked
zones_checked name options what free is fault rows names marked uses story at_end all_rows all some many =
    let row = zones_row name options what in
    checked_as name (zones_rules options) fault rows (map row_of_use uses) (listed_by row names marked) at_end all_rows
    (rw (
      given_name zones_ids options uses names marked (codes "zones") story free.zones ∙ some,
      none_required options (map row_of_use uses),
    ) (reads_as row uses names marked story is all many))

-- Each parse of a command of zones ends with the listed command.
pub zones_ends : (name : Text) (options : List Text) (what : Task) → AreZonesNames options
    → ((given : List Row) → command_in name given ≡ command_from given (zones_row name options what)) → Ends (zones_row name options what) (zones_rules options)
zones_ends name options what free is fault rows [] marked (faulty bad many) = fails fault _ _ bad refl
zones_ends name options what free is fault rows (a ∷ []) marked (faulty bad (inl many)) = absurd (omega (arith, many))
zones_ends name options what free is fault rows (a ∷ []) marked (faulty bad (inr twice)) = fails fault _ _ bad (rw twice refl)
zones_ends name options what free is fault rows (a ∷ b ∷ []) marked (faulty bad (inl many)) = absurd (omega (arith, many))
zones_ends name options what free is fault rows (a ∷ b ∷ []) marked (faulty bad (inr twice)) = fails fault _ _ bad (rw twice refl)
zones_ends name options what free is fault rows (a ∷ b ∷ d ∷ []) marked (faulty bad (inl many)) = absurd (omega (arith, many))
zones_ends name options what free is fault rows (a ∷ b ∷ d ∷ []) marked (faulty bad (inr twice)) = fails fault _ _ bad (rw twice refl)
zones_ends name options what free is fault rows (a ∷ b ∷ d ∷ e ∷ []) marked (faulty bad (inl many)) = absurd (omega (arith, many))
zones_ends name options what free is fault rows (a ∷ b ∷ d ∷ e ∷ []) marked (faulty bad (inr twice)) = fails fault _ _ bad (rw twice refl)
zones_ends name options what free is fault rows (a ∷ b ∷ d ∷ e ∷ f ∷ names) marked (faulty bad many) =
    fails fault _ _ bad (longer (zones_row name options what) (a ∷ b ∷ d ∷ e ∷ f ∷ names) marked (omega arith))
zones_ends name options what free is fault rows [] marked (checked uses story at_end all_rows) =
    checked_as name (zones_rules options) fault rows (map row_of_use uses) None at_end all_rows
    (rw (given_name zones_ids options uses [] marked (codes "zones") story free.zones) refl)
zones_ends name options what free is fault rows (a ∷ []) marked (checked uses story at_end all_rows) =
    let names = a ∷ [] in
    zones_checked name options what free is fault rows names marked uses story at_end all_rows
    (rw (
      first_name zones_ids options uses names marked (codes "zones") story free.zones,
      first_name zones_ids options uses names marked (codes "left") story free.pair.left,
      first_name zones_ids options uses names marked (codes "right") story free.pair.right,
      first_name zones_ids options uses names marked (codes "settings") story free.pair.settings,
    ) refl) refl refl
zones_ends name options what free is fault rows (a ∷ b ∷ []) marked (checked uses story at_end all_rows) =
    let names = a ∷ b ∷ [] in
    zones_checked name options what free is fault rows names marked uses story at_end all_rows
    (rw (
      first_name zones_ids options uses names marked (codes "zones") story free.zones,
      first_name zones_ids options uses names marked (codes "left") story free.pair.left,
      first_name zones_ids options uses names marked (codes "right") story free.pair.right,
      first_name zones_ids options uses names marked (codes "settings") story free.pair.settings,
    ) refl) refl refl
zones_ends name options what free is fault rows (a ∷ b ∷ d ∷ []) marked (checked uses story at_end all_rows) =
    let names = a ∷ b ∷ d ∷ [] in
    zones_checked name options what free is fault rows names marked uses story at_end all_rows
    (rw (
      first_name zones_ids options uses names marked (codes "zones") story free.zones,
      first_name zones_ids options uses names marked (codes "left") story free.pair.left,
      first_name zones_ids options uses names marked (codes "right") story free.pair.right,
      first_name zones_ids options uses names marked (codes "settings") story free.pair.settings,
    ) refl) refl refl
zones_ends name options what free is fault rows (a ∷ b ∷ d ∷ e ∷ []) marked (checked uses story at_end all_rows) =
    let names = a ∷ b ∷ d ∷ e ∷ [] in
    zones_checked name options what free is fault rows names marked uses story at_end all_rows
    (rw (
      first_name zones_ids options uses names marked (codes "zones") story free.zones,
      first_name zones_ids options uses names marked (codes "left") story free.pair.left,
      first_name zones_ids options uses names marked (codes "right") story free.pair.right,
      first_name zones_ids options uses names marked (codes "settings") story free.pair.settings,
    ) refl) refl refl
zones_ends name options what free is fault rows (a ∷ b ∷ d ∷ e ∷ f ∷ names) marked (checked uses story at_end all_rows) = absurd (omega (arith, story.few_names))

-- The row of a command without words.
abbrev pub alone_row : Text → List Text → Task → Listing
alone_row name options what = listing name [] [] options what

-- Each parse of a command without words ends with the listed command.
pub alone_ends : (name : Text) (options : List Text) (what : Task)
    → ((given : List Row) → command_in name given ≡ command_from given (alone_row name options what)) → Ends (alone_row name options what) (option_rules options)
alone_ends name options what is fault rows [] marked (faulty bad (inl many)) = absurd (omega (arith, many))
alone_ends name options what is fault rows [] marked (faulty bad (inr twice)) = fails fault _ _ bad (rw twice refl)
alone_ends name options what is fault rows (a ∷ names) marked (faulty bad many) =
    fails fault _ _ bad (longer (alone_row name options what) (a ∷ names) marked (omega arith))
alone_ends name options what is fault rows [] marked (checked uses story f g) =
    let row = alone_row name options what in
    checked_as name (option_rules options) fault rows (map row_of_use uses) (listed_by row [] marked) f g
    (rw (none_required options (map row_of_use uses)) (reads_as row uses [] marked story is refl refl))
alone_ends name options what is fault rows (a ∷ names) marked (checked uses story f g) = absurd (omega (arith, story.few_names))

-- The row of a command of one word with this name.
abbrev pub one_row : Text → Text → List Text → Task → Listing
one_row name id options what = listing name (one_id id) [] options what

-- Each parse of a command of one word ends with the listed command.
pub one_ends : (name id : Text) (options : List Text) (what : Task) → IsWordName options id
    → ((given : List Row) → command_in name given ≡ command_from given (one_row name id options what)) → Ends (one_row name id options what) (one_rules id options)
one_ends name id options what word is fault rows [] marked (faulty bad many) = fails fault _ _ bad refl
one_ends name id options what word is fault rows (a ∷ []) marked (faulty bad (inl many)) = absurd (omega (arith, many))
one_ends name id options what word is fault rows (a ∷ []) marked (faulty bad (inr twice)) = fails fault _ _ bad (rw twice refl)
one_ends name id options what word is fault rows (a ∷ b ∷ names) marked (faulty bad many) =
    fails fault _ _ bad (longer (one_row name id options what) (a ∷ b ∷ names) marked (omega arith))
one_ends name id options what word is fault rows [] marked (checked uses story f g) =
    checked_as name (one_rules id options) fault rows (map row_of_use uses) None f g (rw (given_name (one_id id) options uses [] marked id story word.free) refl)
one_ends name id options what word is fault rows (a ∷ []) marked (checked uses story f g) =
    let row = one_row name id options what in
    let all : names_of (map row_of_use uses) row ≡ Some (a ∷ []) = rw (first_name (one_id id) options uses (a ∷ []) marked id story word.free, word.own) refl in
    checked_as name (one_rules id options) fault rows (map row_of_use uses) (listed_by row (a ∷ []) marked) f g
    (rw (given_name (one_id id) options uses (a ∷ []) marked id story word.free, word.own, none_required options (map row_of_use uses))
    (reads_as row uses (a ∷ []) marked story is all refl))
one_ends name id options what word is fault rows (a ∷ b ∷ names) marked (checked uses story f g) = absurd (omega (arith, story.few_names))
