-- The first word, and with it all of them: `clap` reads the listed command in any words that are
-- texts, which is the law of src/law.rt. A further command of the program has its line in
-- `built_program` and `all_known`, and one more part in `meets_none`.
use Rattle.std.proofs.Common.{◌≡◌, suc, Bool, true, false, cond, List, [], ◌∷◌, ◌++◌, Option, Some, None, is_some, refl, sym, ap, ap₂, ◌∙◌, arith, append_assoc, codes}
use Rattle.std.specs.Prelude.{option_and_then}
use Rattle.std.specs.List.{All, find, fold}
use Rattle.std.specs.Str.{IsUtf8, bytes_eq}
use Rattle.std.proofs.lemmas.List.{append-nil}
use Rattle.clap.specs.Kinds.{Kinds, or_else}
use Rattle.clap.specs.Faults.{check_fault, defaults_fault, entered_fault, settle_fault, step_fault, turn_fault, walk_fault, word_fault}
use Rattle.clap.specs.Simple.{App, Shape, entered, label_of, names_of, new_shape}
use Rattle.clap.specs.Walk.{Names, Row, Rule, Text, Walk, answers_to, finished, idle, is_empty, nothing_held, settled, subcommand_met, walk_from, walked, word_met}
use Rattle.clap.proofs.FaultLemmas.{stopped_fault}
use Rattle.clap_reading.specs.ClapReading.{command_from, command_in, clap_command, command_of_line}
use Rattle.clap_reading.specs.Grammar.{program_app}
use Rattle.command_words.specs.Listed.{Given, command_behind, command_given, given, listed_command}
use Rattle.command_words.specs.Table.{Listing, block_options, listings, outside_options, row_in, run_options, turret_options}
use Rattle.command_words.specs.declared.command.Command.{Command}
use Rattle.command_words.specs.declared.table.Task.{Task}
use Rattle.command_words.specs.declared.table.Task.TheVariants as task
use Rattle.clap_reading.proofs.Readings.{check_of, reads_all}
use Rattle.clap_reading.proofs.Steps.{at_rest, bundle_fails, first_some, going, leaf, or_else-none}
use Rattle.clap_reading.proofs.Stories.{Outcome, begun}
use Rattle.clap_reading.proofs.Subcommands.{ArePairNames, AreTapeNames, AreZonesNames, Ends, IsWordName, alone_arguments, alone_ends, alone_row, ids_of, one_arguments, one_ends, one_row, one_rules, option_rules, pair_arguments, pair_ends, pair_row, pair_rules, tape_arguments, tape_ends, tape_row, tape_rules, zones_arguments, zones_ends, zones_row, zones_rules}
use Rattle.clap_reading.proofs.Uses.{same_text}
use Rattle.clap_reading.proofs.Walks.{AllTexts, Arguments, end_of, rest_fault}
use Rattle.clap_reading.proofs.WordKinds.{WordKind, dashes, kind_of_word, listed, long, name, short}

-- The program's command without its subcommands, built.
abbrev top_shape : Shape
top_shape = record (new_shape (codes "twin_lathe")) {
  is_leaf = false;
  subcommand_required = true;
  disable_help_flag = true;
  disable_help_subcommand = true;
  is_built = true;
}

-- The program's command, built: one line for each row.
abbrev built_program : App
built_program = record {
  top = top_shape;
  subs = leaf (codes "verify") (pair_rules []) ∷ leaf (codes "waits") (pair_rules outside_options) ∷ leaf (codes "races") (pair_rules [])
      ∷ leaf (codes "trace") (pair_rules block_options) ∷ leaf (codes "run") (pair_rules run_options) ∷ leaf (codes "resume") (option_rules run_options)
      ∷ leaf (codes "edit") (one_rules (codes "edits") [])
      ∷ leaf (codes "moves") (option_rules []) ∷ leaf (codes "state") (option_rules []) ∷ leaf (codes "zones") (zones_rules [])
      ∷ leaf (codes "branch") (one_rules (codes "meetings") []) ∷ leaf (codes "make") (one_rules (codes "number") turret_options)
      ∷ leaf (codes "expand") (one_rules (codes "tape") [])
      ∷ leaf (codes "plain") (tape_rules []) ∷ [];
}

-- The names that the first word may be.
abbrev names_top : Names
names_top = names_of built_program

-- The walk before the first word.
abbrev start : Walk
start = walk_from nothing_held

-- The command after a walk, if it has no fault to its end.
abbrev answer : Kinds → Walk → Option Command
answer fault w =
    cond (is_empty (or_else fault (or_else (entered_fault built_program w.stopped) (or_else (settle_fault [] false w.held)
    (or_else (defaults_fault (settled [] w.held).rows []) (check_fault top_shape (finished [] w.held) (is_some (entered built_program w.stopped))))))))
    (option_and_then (λ met. command_in met.0 met.1) (entered built_program w.stopped)) None

-- `clap` reads this command in the words.
clap_command_is : (words : List Text) → clap_command words ≡ answer (walk_fault top_shape names_top start words) (fold (walked [] names_top) start words)
unfolding command_of_line program_app listings
clap_command_is words = refl

-- a known first word: the rest goes to the subcommand

-- After a subcommand the rest of the words is its own.
stays_stopped : (id : Text) (before rest : List Text) → fold (walked [] names_top) (record start { stopped = Some (id, before) }) rest ≡ record start { stopped = Some (id, before ++ rest) }
unfolding walked
stays_stopped id before [] = ap (λ words. record start { stopped = Some (id, words) }) (sym (append-nil before))
stays_stopped id before (word ∷ rest) =
    stays_stopped id (before ++ word ∷ []) rest ∙ ap (λ words. record start { stopped = Some (id, words) }) (append_assoc before (word ∷ []) rest)

-- A known first word and the rest have no fault before the subcommand reads the rest.
known_fault : (id : Text) (rest : List Text) → walked [] names_top start id ≡ record start { stopped = Some (id, []) } → turn_fault top_shape names_top start id ≡ []
    → walk_fault top_shape names_top start (id ∷ rest) ≡ []
unfolding walk_fault
known_fault id rest first none =
    ap (λ now. or_else now (walk_fault top_shape names_top (walked [] names_top start id) rest)) none
    ∙ ap (λ w. walk_fault top_shape names_top w rest) first
    ∙ stopped_fault top_shape names_top start (id, []) rest

-- What a subcommand answers to its words.
abbrev answer_of : Text → List Rule → List Text → Option Command
answer_of id c rest =
    cond (is_empty (rest_fault id c (at_rest [] None 1 false) rest)) (command_in id (finished c (end_of c (at_rest [] None 1 false) rest))) None

-- A known first word: the rest goes to its subcommand.
known : (id : Text) (c : List Rule) (rest : List Text) → walked [] names_top start id ≡ record start { stopped = Some (id, []) } → turn_fault top_shape names_top start id ≡ []
    → find (λ s. answers_to id (label_of s)) built_program.subs ≡ Some (leaf id c)
    → clap_command (id ∷ rest) ≡ answer_of id c rest
unfolding defaults_fault
known id c rest first none found =
    clap_command_is (id ∷ rest)
    ∙ ap₂ answer (known_fault id rest first none) (ap (λ w. fold (walked [] names_top) w rest) first ∙ stays_stopped id [] rest)
    ∙ rw (found, or_else-none) refl

-- how a subcommand ends, from the outcome of its words

-- The outcome of a subcommand's words gives the listed command.
from_outcome : (row : Listing) (c : List Rule) → Ends row c → (fault : Kinds) (rows : List Row) (g : Option Given)
    → Outcome (ids_of row) row.options (check_of row.name c) fault rows [] [] g
    → cond (is_empty fault) (command_in row.name rows) None ≡ option_and_then (command_given row) g
from_outcome row c ends fault rows None outcome = rw outcome refl
from_outcome row c ends fault rows (Some g) outcome = ends fault rows g.names g.marked outcome

-- A subcommand answers the listed command.
subcommand_is : (row : Listing) (c : List Rule) → Ends row c → Arguments c (ids_of row) row.options → (rest : List Text) → AllTexts rest
    → answer_of row.name c rest ≡ command_behind rest row
subcommand_is row c ends arguments rest texts =
    from_outcome row c ends (rest_fault row.name c (at_rest [] None 1 false) rest) (finished c (end_of c (at_rest [] None 1 false) rest)) (given row.options rest)
    ((reads_all row.name c (ids_of row) row.options arguments rest texts).0 [] None [] [] false tt (begun (ids_of row) row.options))

-- an unknown first word

-- The word is the name of none of these rows.
abbrev IsUnknown : Text → List Listing → Type 0
IsUnknown word [] = Unit {0}
IsUnknown word (row ∷ rows) = (bytes_eq row.name word ≡ false) × IsUnknown word rows

-- An unknown word meets no subcommand.
meets_none : (word : Text) → IsUnknown word listings → subcommand_met names_top idle word ≡ None
unfolding listings
meets_none word u = rw (u.0, u.1.0, u.1.1.0, u.1.1.1.0, u.1.1.1.1.0, u.1.1.1.1.1.0, u.1.1.1.1.1.1.0, u.1.1.1.1.1.1.1.0, u.1.1.1.1.1.1.1.1.0, u.1.1.1.1.1.1.1.1.1.0, u.1.1.1.1.1.1.1.1.1.1.0, u.1.1.1.1.1.1.1.1.1.1.1.0, u.1.1.1.1.1.1.1.1.1.1.1.1.0, u.1.1.1.1.1.1.1.1.1.1.1.1.1.0) refl

-- An unknown first word is a fault, unless it is `--`.
unknown_turn_fails : (word : Text) → subcommand_met names_top idle word ≡ None → WordKind [] word → bytes_eq word (codes "--") ≡ false
    → is_empty (turn_fault top_shape names_top start word) ≡ false
unknown_turn_fails word none (dashes e) no_dashes = absurd (let bad : true ≡ false = sym e ∙ no_dashes in cc)
unknown_turn_fails word none (name goes a b) no_dashes = rw (none, goes.no_dashes, goes.no_long, goes.no_short) refl
unknown_turn_fails word none (listed opt e never read a b) no_dashes = cc
unknown_turn_fails word none (long long_name text e read other a b) no_dashes = rw (none, e, read) refl
unknown_turn_fails word none (short flags first e no_long flags_are char some a b) no_dashes =
    first_some (word_fault top_shape names_top false idle word nothing_held)
    (step_fault top_shape 1 (word_met [] names_top false idle 1 word nothing_held).0 (word_met [] names_top false idle 1 word nothing_held).1)
    (rw (none, e, no_long, flags_are) (bundle_fails [] nothing_held flags first char refl some (λ x. refl)))

-- A fault gives no command.
refuses : (fault : Kinds) (w : Walk) → is_empty fault ≡ false → answer fault w ≡ None
refuses fault w some =
    let all : is_empty (or_else fault (or_else (entered_fault built_program w.stopped) (or_else (settle_fault [] false w.held)
    (or_else (defaults_fault (settled [] w.held).rows []) (check_fault top_shape (finished [] w.held) (is_some (entered built_program w.stopped))))))) ≡ false
    = first_some fault (or_else (entered_fault built_program w.stopped) (or_else (settle_fault [] false w.held)
    (or_else (defaults_fault (settled [] w.held).rows []) (check_fault top_shape (finished [] w.held) (is_some (entered built_program w.stopped)))))) some in
    rw all refl

-- If the first word is a fault, there is no command.
first_refused : (word : Text) (rest : List Text) → is_empty (turn_fault top_shape names_top start word) ≡ false → clap_command (word ∷ rest) ≡ None
unfolding walk_fault
first_refused word rest some =
    clap_command_is (word ∷ rest)
    ∙ refuses (walk_fault top_shape names_top start (word ∷ rest)) (fold (walked [] names_top) start (word ∷ rest))
    (first_some (turn_fault top_shape names_top start word) (walk_fault top_shape names_top (walked [] names_top start word) rest) some)

-- `--` before a subcommand

-- After `--` as the first word the walk goes on.
dashes_walks : (word : Text) → subcommand_met names_top idle word ≡ None → bytes_eq word (codes "--") ≡ true → walked [] names_top start word ≡ going nothing_held idle 1 true
unfolding walked
dashes_walks word none e = rw (none, e) refl

-- `--` alone gives no command.
dashes_alone : (word : Text) → turn_fault top_shape names_top start word ≡ [] → walked [] names_top start word ≡ going nothing_held idle 1 true
    → answer (walk_fault top_shape names_top start (word ∷ [])) (fold (walked [] names_top) start (word ∷ [])) ≡ None
unfolding walk_fault defaults_fault
dashes_alone word turn walks = ap₂ answer (ap (λ now. or_else now []) turn) walks

-- `--` with words after it is a fault.
dashes_then : (word other : Text) (more : List Text) → turn_fault top_shape names_top start word ≡ [] → walked [] names_top start word ≡ going nothing_held idle 1 true
    → is_empty (walk_fault top_shape names_top start (word ∷ other ∷ more)) ≡ false
unfolding walk_fault
dashes_then word other more turn walks =
    ap is_empty (ap₂ (λ now next. or_else now (walk_fault top_shape names_top next (other ∷ more))) turn walks)
    ∙ first_some (turn_fault top_shape names_top (going nothing_held idle 1 true) other) (walk_fault top_shape names_top (walked [] names_top (going nothing_held idle 1 true) other) more) refl

-- `--` as the first word gives no command, whatever follows.
dashes_first : (word : Text) (rest : List Text) → subcommand_met names_top idle word ≡ None → bytes_eq word (codes "--") ≡ true → clap_command (word ∷ rest) ≡ None
dashes_first word rest none e =
    let turn : turn_fault top_shape names_top start word ≡ [] = rw (none, e) refl in
    let walks : walked [] names_top start word ≡ going nothing_held idle 1 true = dashes_walks word none e in
    clap_command_is (word ∷ rest) ∙ go rest turn walks
  where
    go : (rest : List Text) → turn_fault top_shape names_top start word ≡ [] → walked [] names_top start word ≡ going nothing_held idle 1 true
        → answer (walk_fault top_shape names_top start (word ∷ rest)) (fold (walked [] names_top) start (word ∷ rest)) ≡ None
    go [] turn walks = dashes_alone word turn walks
    go (other ∷ more) turn walks =
        refuses (walk_fault top_shape names_top start (word ∷ other ∷ more)) (fold (walked [] names_top) start (word ∷ other ∷ more)) (dashes_then word other more turn walks)

-- No words give no command.
nothing : clap_command [] ≡ None
unfolding walk_fault defaults_fault
nothing = clap_command_is [] ∙ refl

-- An unknown first word gives no command.
unknown : (word : Text) (rest : List Text) → IsUtf8 word → IsUnknown word listings → clap_command (word ∷ rest) ≡ None
unknown word rest utf8 u = go (bytes_eq word (codes "--")) refl
  where
    go : (is_dashes : Bool) → bytes_eq word (codes "--") ≡ is_dashes → clap_command (word ∷ rest) ≡ None
    go true e = dashes_first word rest (meets_none word u) e
    go false e = first_refused word rest (unknown_turn_fails word (meets_none word u) (kind_of_word [] word utf8) e)

-- each subcommand

-- With this row's name as the first word `clap` reads the listed command.
abbrev IsKnown : Listing → Type 0
IsKnown row = (rest : List Text) → AllTexts rest → clap_command (row.name ∷ rest) ≡ command_behind rest row

-- With the name of each of these rows as the first word `clap` reads the listed command.
abbrev AreKnown : List Listing → Type 0
AreKnown [] = Unit {0}
AreKnown (row ∷ rows) = IsKnown row × AreKnown rows

-- The first word is the name of this subcommand.
pub record IsMet (called : Text) (c : List Rule) : Type 0 where
  -- after it the rest of the words is the subcommand's
  pub first : walked [] names_top start called ≡ record start { stopped = Some (called, []) }
  -- the word itself has no fault
  pub none : turn_fault top_shape names_top start called ≡ []
  -- the subcommand of that name has these rules
  pub found : find (λ s. answers_to called (label_of s)) built_program.subs ≡ Some (leaf called c)

-- The row of the subcommand is the one that its name gives.
abbrev IsRowOf : Text → Listing → Type 0
IsRowOf called row = (given : List Row) → command_in called given ≡ command_from given row

-- A row of a pair is known.
pair_is : (called : Text) (options : List Text) (what : Task) → ArePairNames options → IsMet called (pair_rules options)
    → IsRowOf called (pair_row called options what) → IsKnown (pair_row called options what)
pair_is called options what free met is rest texts = known called (pair_rules options) rest met.first met.none met.found
    ∙ subcommand_is (pair_row called options what) (pair_rules options) (pair_ends called options what free is) (pair_arguments options free) rest texts

-- A row of a tape is known.
tape_is : (called : Text) (options : List Text) (what : Task) → AreTapeNames options → IsMet called (tape_rules options)
    → IsRowOf called (tape_row called options what) → IsKnown (tape_row called options what)
tape_is called options what free met is rest texts = known called (tape_rules options) rest met.first met.none met.found
    ∙ subcommand_is (tape_row called options what) (tape_rules options) (tape_ends called options what free is) (tape_arguments options free) rest texts

-- A row of zones is known.
zones_is : (called : Text) (options : List Text) (what : Task) → AreZonesNames options → IsMet called (zones_rules options)
    → IsRowOf called (zones_row called options what) → IsKnown (zones_row called options what)
zones_is called options what free met is rest texts = known called (zones_rules options) rest met.first met.none met.found
    ∙ subcommand_is (zones_row called options what) (zones_rules options) (zones_ends called options what free is) (zones_arguments options free) rest texts

-- A row without words is known.
alone_is : (called : Text) (options : List Text) (what : Task) → IsMet called (option_rules options)
    → IsRowOf called (alone_row called options what) → IsKnown (alone_row called options what)
alone_is called options what met is rest texts = known called (option_rules options) rest met.first met.none met.found
    ∙ subcommand_is (alone_row called options what) (option_rules options) (alone_ends called options what is) (alone_arguments options) rest texts

-- A row of one word is known.
one_is : (called id : Text) (options : List Text) (what : Task) → IsWordName options id → IsMet called (one_rules id options)
    → IsRowOf called (one_row called id options what) → IsKnown (one_row called id options what)
one_is called id options what word met is rest texts = known called (one_rules id options) rest met.first met.none met.found
    ∙ subcommand_is (one_row called id options what) (one_rules id options) (one_ends called id options what word is) (one_arguments options id word) rest texts

-- All rows are known. A further one is a line here.
all_known : AreKnown listings
unfolding listings command_in walked
all_known = (
  pair_is (codes "verify") [] task.Verify (record { left = refl; right = refl; settings = refl }) (record { first = refl; none = refl; found = refl }) (λ given. refl),
  (
    pair_is (codes "waits") outside_options task.Waits (record { left = refl; right = refl; settings = refl }) (record { first = refl; none = refl; found = refl }) (λ given. refl),
    (
      pair_is (codes "races") [] task.Races (record { left = refl; right = refl; settings = refl }) (record { first = refl; none = refl; found = refl }) (λ given. refl),
      (
        pair_is (codes "trace") block_options task.Trace (record { left = refl; right = refl; settings = refl }) (record { first = refl; none = refl; found = refl }) (λ given. refl),
        (
          pair_is (codes "run") run_options task.Run (record { left = refl; right = refl; settings = refl }) (record { first = refl; none = refl; found = refl }) (λ given. refl),
          (
            alone_is (codes "resume") run_options task.Resume (record { first = refl; none = refl; found = refl }) (λ given. refl),
            (
              one_is (codes "edit") (codes "edits") [] task.Edit (record { own = refl; free = refl }) (record { first = refl; none = refl; found = refl }) (λ given. refl),
              (
                alone_is (codes "moves") [] task.Moves (record { first = refl; none = refl; found = refl }) (λ given. refl),
                (
                  alone_is (codes "state") [] task.State (record { first = refl; none = refl; found = refl }) (λ given. refl),
                  (
                    zones_is (codes "zones") [] task.Zones (record { zones = refl; pair = record { left = refl; right = refl; settings = refl } }) (record { first = refl; none = refl; found = refl }) (λ given. refl),
                    (
                      one_is (codes "branch") (codes "meetings") [] task.Branch (record { own = refl; free = refl }) (record { first = refl; none = refl; found = refl }) (λ given. refl),
                      (
                        one_is (codes "make") (codes "number") turret_options task.Make (record { own = refl; free = refl }) (record { first = refl; none = refl; found = refl }) (λ given. refl),
                        (
                          one_is (codes "expand") (codes "tape") [] task.Expand (record { own = refl; free = refl }) (record { first = refl; none = refl; found = refl }) (λ given. refl),
                          (
                            tape_is (codes "plain") [] task.Plain (record { tape = refl; settings = refl }) (record { first = refl; none = refl; found = refl }) (λ given. refl),
                            tt,
                          ),
                        ),
                      ),
                    ),
                  ),
                ),
              ),
            ),
          ),
        ),
      ),
    ),
  ),
)

-- all the words: the first one names the first row of that name, or none

-- The first word names the first row of that name, or none.
by_row : (rows : List Listing) → AreKnown rows → (word : Text) (rest : List Text) → AllTexts rest → (IsUnknown word rows → clap_command (word ∷ rest) ≡ None)
    → clap_command (word ∷ rest) ≡ option_and_then (command_behind rest) (row_in rows word)
by_row [] known word rest texts none = none tt
by_row (row ∷ rows) known word rest texts none =
    let here : (b : Bool) → bytes_eq row.name word ≡ b → clap_command (word ∷ rest) ≡ option_and_then (command_behind rest) (cond b (Some row) (row_in rows word))
    = elim [
      | true ↦ λ e. ap (λ first. clap_command (first ∷ rest)) (sym (same_text row.name word e)) ∙ known.0 rest texts
      | false ↦ λ e. by_row rows known.1 word rest texts (λ more. none (e, more))
    ] in
    here (bytes_eq row.name word) refl

-- `clap` reads the listed command in any words that are texts.
pub listed_is : (words : List Text) → AllTexts words → clap_command words ≡ listed_command words
unfolding listed_command
listed_is [] texts = nothing
listed_is (word ∷ rest) texts = by_row listings all_known word rest texts.1 (unknown word rest texts.0)

-- Words of which each is a text are texts.
pub all_texts : (words : List Text) → All IsUtf8 words → AllTexts words
all_texts [] all = tt
all_texts (word ∷ rest) all = (all 0 word (omega arith), all_texts rest (λ k d less. all (suc k) d (omega arith)))
