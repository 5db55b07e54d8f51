-- All the words after a subcommand, as `clap` walks over them and as the listed commands read them.
-- A use is an argument with the text that it was given. clap keeps the last use until the next
-- word, and settles it then. For Readings, Subcommands and TopWords.
use Rattle.std.proofs.Common.{◌≡◌, ℕ, ◌+◌, ◌≤◌, Bool, true, false, List, [], ◌∷◌, length, Option, Some, None, refl, ap, ◌∙◌, codes, inl, inr}
use Rattle.std.proofs.Math.Bool.{and-false}
use Rattle.std.specs.Prelude.{◌⊎◌}
use Rattle.std.specs.List.{fold, slice_get, zip}
use Rattle.std.specs.Option.{option_map_or}
use Rattle.std.specs.Str.{IsUtf8, bytes_eq}
use Rattle.clap.specs.Kinds.{Kinds, or_else}
use Rattle.clap.specs.Lexer.{long_of}
use Rattle.clap.specs.Faults.{check_fault, defaults_fault, option_fault, positional_fault, settle_fault, step_fault, stray_fault, turn_fault, use_fault, walk_fault, word_fault}
use Rattle.clap.specs.Walk.{Held, Row, Rule, Text, Waiting, Walk, arg_by_id, arg_by_index, arg_by_long, arg_by_short, finished, idle, is_empty, settled, takes_several, walked, with_default, word_met}
use Rattle.command_words.specs.Listed.{option_text}
use Rattle.clap_reading.proofs.Steps.{IsNameWord, IsOnce, dashes_going, first_some, going, leaf, no_subcommand, option_at, or_else-none, short_turn, unknown_turn}
use Rattle.clap_reading.proofs.Uses.{is_known, value_in}
use Rattle.clap_reading.proofs.WordKinds.{WordKind, dashes, kind_of_word, listed, long, name, short}

-- what is left of a parse, from a walk on

-- What the parse holds after the rest of the words.
abbrev pub end_of : List Rule → Walk → List Text → Held
end_of c w rest = (fold (walked c []) w rest).held

-- The faults at the end: of settling, of defaults, and of words that are lacking.
abbrev pub closing : Text → List Rule → Held → Kinds
closing id c end = or_else (settle_fault c false end)
    (or_else (defaults_fault (settled c end).rows c) (check_fault (leaf id c) (finished c end) false))

-- The faults of the rest of the words, and of the end.
abbrev pub rest_fault : Text → List Rule → Walk → List Text → Kinds
rest_fault id c w rest = or_else (walk_fault (leaf id c) [] w rest) (closing id c (end_of c w rest))

-- After a word without a fault the faults are those of the rest.
pub step_fault_is : (id : Text) (c : List Rule) (w after : Walk) (word : Text) (rest : List Text) → turn_fault (leaf id c) [] w word ≡ [] → walked c [] w word ≡ after
    → rest_fault id c w (word ∷ rest) ≡ rest_fault id c after rest
unfolding walk_fault
step_fault_is id c w after word rest none same =
    ap (λ now. or_else (or_else now (walk_fault (leaf id c) [] (walked c [] w word) rest)) (closing id c (end_of c (walked c [] w word) rest))) none
    ∙ ap (λ next. rest_fault id c next rest) same

-- What is held at the end is what the walk after the word comes to.
pub step_end_is : (c : List Rule) (w after : Walk) (word : Text) (rest : List Text) → walked c [] w word ≡ after → end_of c w (word ∷ rest) ≡ end_of c after rest
step_end_is c w after word rest same = ap (λ x. (fold (walked c []) x rest).held) same

-- A word with a fault makes the whole fail.
pub fails_now : (id : Text) (c : List Rule) (w : Walk) (word : Text) (rest : List Text) → is_empty (turn_fault (leaf id c) [] w word) ≡ false
    → is_empty (rest_fault id c w (word ∷ rest)) ≡ false
unfolding walk_fault
fails_now id c w word rest now =
    first_some (or_else (turn_fault (leaf id c) [] w word) (walk_fault (leaf id c) [] (walked c [] w word) rest)) (closing id c (end_of c w (word ∷ rest)))
    (first_some (turn_fault (leaf id c) [] w word) (walk_fault (leaf id c) [] (walked c [] w word) rest) now)

-- A fault in the words after a word makes the whole fail.
pub fails_later : (id : Text) (c : List Rule) (w after : Walk) (word : Text) (rest : List Text) → turn_fault (leaf id c) [] w word ≡ [] → walked c [] w word ≡ after
    → is_empty (rest_fault id c after rest) ≡ false → is_empty (rest_fault id c w (word ∷ rest)) ≡ false
fails_later id c w after word rest none same later = ap is_empty (step_fault_is id c w after word rest none same) ∙ later

-- what the walk needs of the arguments: the names by position, each once, and the limit

-- The word of this name has its rule at this position, and takes one text, once.
pub record RuleAt (c : List Rule) (id : Text) (position : ℕ) : Type 0 where
  -- the rule of the word
  pub rule : Rule
  -- it is found at the position
  pub at : arg_by_index c position ≡ Some rule
  -- it has the name
  pub same : rule.id ≡ id
  -- the word takes one text, once
  pub once : IsOnce rule
  -- it is found by the name
  pub found : arg_by_id c id ≡ Some rule

-- What the walk needs of a subcommand's arguments: its words by position, each once, and its
-- options.
pub record Arguments (c : List Rule) (ids options : List Text) : Type 0 where
  -- The next word has its rule at the next position.
  pub at : (names : List Text) (id : Text) → slice_get ids (length names) ≡ Some id → RuleAt c id (length names + 1)
  -- After the last word no position takes one.
  pub full : (names : List Text) → length names ≡ length ids → arg_by_index c (length names + 1) ≡ None
  -- The next word was not given before.
  pub fresh : (names : List Text) (id : Text) → slice_get ids (length names) ≡ Some id → value_in id (zip ids names) ≡ None
  -- No word has an option's name.
  pub named : (names : List Text) (id : Text) → slice_get ids (length names) ≡ Some id → is_known options id ≡ false
  -- An option is found by its name.
  pub option_long : (id : Text) → is_known options id ≡ true → arg_by_long c id ≡ Some (option_at id)
  -- An option is found by its identifier.
  pub option_id : (id : Text) → is_known options id ≡ true → arg_by_id c id ≡ Some (option_at id)
  -- A name that is none of the options' finds none.
  pub no_long : (id : Text) → is_known options id ≡ false → arg_by_long c id ≡ None
  -- There are no short options.
  pub no_short : (x : ℕ) → arg_by_short c x ≡ None
  -- No position takes several texts.
  pub once_at : (position : ℕ) (a : Rule) → arg_by_index c position ≡ Some a → takes_several a ≡ false
  -- There are four words at most.
  pub few : length ids ≤ 4
  -- No argument has a default.
  pub no_default : (rows : List Row) → fold with_default rows c ≡ rows
  -- No argument has a fault of a default.
  pub no_default_fault : (rows : List Row) → defaults_fault rows c ≡ []

-- An option takes one text, once.
pub option_once : (id : Text) → IsOnce (option_at id)
option_once id = record {
  takes = λ text rows. refl;
  faults = λ text rows. or_else-none _;
  needs = λ rows. refl;
  valued = refl;
  several = refl;
  single = refl;
  most = refl;
  closed = refl;
}

-- A walk that holds a use which does not settle fails, whatever words come

-- Each of these words is a text in UTF-8.
abbrev pub AllTexts : List Text → Type 0
AllTexts [] = Unit {0}
AllTexts (word ∷ rest) = IsUtf8 word × AllTexts rest

-- The walk waits for nothing, or `--` was met.
abbrev pub GoesOn : Waiting → Bool → Type 0
GoesOn waiting trailing = (waiting ≡ idle) ⊎ (trailing ≡ true)

-- If what is held can't be settled, a name is a fault.
value_fails : (id : Text) (c : List Rule) (held : Held) (position : ℕ) → is_empty (settle_fault c false held) ≡ false
    → ((position : ℕ) (a : Rule) → arg_by_index c position ≡ Some a → takes_several a ≡ false)
    → is_empty (option_map_or (λ a. positional_fault c false a held) (arg_by_index c position) (stray_fault (leaf id c))) ≡ false
value_fails id c held position stuck once = go (arg_by_index c position) refl
  where
    go : (found : Option Rule) → arg_by_index c position ≡ found → is_empty (option_map_or (λ a. positional_fault c false a held) found (stray_fault (leaf id c))) ≡ false
    go None e = refl
    go (Some a) e = rw (once position a e, and-false) stuck

-- If what is held can't be settled, each word after `--` is a fault.
trailing_fails : (id : Text) (c : List Rule) (held : Held) (waiting : Waiting) (position : ℕ) (word : Text) → is_empty (settle_fault c false held) ≡ false
    → ((position : ℕ) (a : Rule) → arg_by_index c position ≡ Some a → takes_several a ≡ false)
    → is_empty (turn_fault (leaf id c) [] (going held waiting position true) word) ≡ false
trailing_fails id c held waiting position word stuck once = value_fails id c held position stuck once

-- If what is held can't be settled, a word that may be a name is a fault.
name_fails : (id : Text) (c : List Rule) (held : Held) (position : ℕ) (word : Text) → IsNameWord word → is_empty (settle_fault c false held) ≡ false
    → ((position : ℕ) (a : Rule) → arg_by_index c position ≡ Some a → takes_several a ≡ false)
    → is_empty (turn_fault (leaf id c) [] (going held idle position false) word) ≡ false
name_fails id c held position word goes stuck once = rw (goes.no_dashes, goes.no_long, goes.no_short) (value_fails id c held position stuck once)

-- If what is held can't be settled, an option is a fault.
pub option_fails : (id : Text) (c : List Rule) (opt : Text) (held : Held) (waiting : Waiting) (position : ℕ) (word : Text) (text : Option Text) → bytes_eq word (codes "--") ≡ false
    → long_of word ≡ Some (opt, text) → arg_by_long c opt ≡ Some (option_at opt) → is_empty (settle_fault c false held) ≡ false
    → is_empty (turn_fault (leaf id c) [] (going held waiting position false) word) ≡ false
option_fails id c opt held waiting position word text no_dashes read found stuck =
    first_some (word_fault (leaf id c) [] false waiting word held)
    (step_fault (leaf id c) position (word_met c [] false waiting position word held).0 (word_met c [] false waiting position word held).1)
    (rw (no_subcommand waiting word, no_dashes, read, found) (by_text text))
  where
    by_text : (text : Option Text) → is_empty (option_fault c false (option_at opt) text held) ≡ false
    by_text None = stuck
    by_text (Some t) = first_some (settle_fault c false held) (use_fault false (option_at opt) (t ∷ []) (settled c held).rows) stuck

-- If what is held can't be settled, the parse fails, whatever words come.
pub stuck_fails : (id : Text) (c : List Rule) (ids options : List Text) → Arguments c ids options → (held : Held) → held.skip ≡ 0
    → is_empty (settle_fault c false held) ≡ false → (rest : List Text) → AllTexts rest → (waiting : Waiting) (position : ℕ) (trailing : Bool) → GoesOn waiting trailing
    → is_empty (rest_fault id c (going held waiting position trailing) rest) ≡ false
unfolding walk_fault
stuck_fails id c ids options arguments held skip stuck [] texts waiting position trailing goes =
    first_some (settle_fault c false held) (or_else (defaults_fault (settled c held).rows c) (check_fault (leaf id c) (finished c held) false)) stuck
stuck_fails id c ids options arguments held skip stuck (word ∷ rest) texts waiting position true goes =
    fails_now id c (going held waiting position true) word rest (trailing_fails id c held waiting position word stuck arguments.once_at)
stuck_fails id c ids options arguments held skip stuck (word ∷ rest) texts waiting position false (inr never) = cc
stuck_fails id c ids options arguments held skip stuck (word ∷ rest) texts waiting position false (inl quiet) =
    let again = stuck_fails id c ids options arguments held skip stuck rest texts.1 idle position true (inr refl) in
    rw quiet (by_kind (kind_of_word options word texts.0) again)
  where
    by_kind : WordKind options word → is_empty (rest_fault id c (going held idle position true) rest) ≡ false
        → is_empty (rest_fault id c (going held idle position false) (word ∷ rest)) ≡ false
    by_kind (dashes e) again = fails_later id c (going held idle position false) (going held idle position true) word rest (rw e refl) (dashes_going c held position word e) again
    by_kind (name goes a b) again = fails_now id c (going held idle position false) word rest (name_fails id c held position word goes stuck arguments.once_at)
    by_kind (listed opt no_dashes is read a b) again =
        fails_now id c (going held idle position false) word rest (option_fails id c opt held idle position word (option_text word) no_dashes read (arguments.option_long opt is) stuck)
    by_kind (long long_name text no_dashes read other a b) again =
        fails_now id c (going held idle position false) word rest (unknown_turn id c held idle position word long_name text no_dashes read (arguments.no_long long_name other))
    by_kind (short flags first no_dashes read flags_are char some a b) again =
        fails_now id c (going held idle position false) word rest (short_turn id c held idle position word flags first no_dashes read flags_are char skip some arguments.no_short)
