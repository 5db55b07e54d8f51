-- A parse of the words after a subcommand reads just what the listed commands read, word by word. A
-- parse is at rest between two words, or waits for the text of an option. A use is an argument with
-- the text that it was given. clap keeps the last use until the next word, and settles it then. For
-- Subcommands and TopWords.
use Rattle.std.proofs.Common.{◌≡◌, ◌+◌, ◌<◌, Bool, true, false, List, [], ◌∷◌, ◌++◌, map, length, min, Option, Some, None, refl, sym, ap, ap₂, ◌∙◌, arith, length-append, codes, inl, inr}
use Rattle.std.specs.Str.{bytes_eq}
use Rattle.std.proofs.lemmas.Bool.Decides.{eqb_tells}
use Rattle.std.proofs.lemmas.List.{append-nil}
use Rattle.clap.specs.Kinds.{Kinds, or_else}
use Rattle.clap.specs.Lexer.{long_of, usize_max}
use Rattle.clap.specs.Faults.{check_fault, defaults_fault, settle_fault, turn_fault, use_fault, walk_fault}
use Rattle.clap.specs.Walk.{Row, Rule, Text, Walk, finished, idle, is_empty, option, settled, used, walked}
use Rattle.command_words.specs.Listed.{Given, given, option_text, text_given, text_then, with_name, with_text}
use Rattle.command_words.proofs.GivenWords.{dashes_are_option, given_dashes, given_name, given_none, given_nothing, given_option, waits_for_name, waits_for_option, waits_in_vain}
use Rattle.clap_reading.proofs.Steps.{GoesToPositional, Settles, all_uses, at_option, at_option_trailing, at_rest, attached_turn, attached_walk, dashes_turn, dashes_walk, fault_once, fault_twice, first_some, held_at, held_waiting, leaf, name_turn, name_walks, option_at, option_turn, option_walk, rows_at_rest, settled_at_rest, settles_freely, short_turn, stray_turn, text_turn, text_walk, unknown_turn, used_once, waiting_dashes_turn, waiting_dashes_walk}
use Rattle.clap_reading.proofs.Stories.{Ending, Outcome, Story, behind_name, behind_option, checked, one_name, one_option, option_again, some_at, too_many_names, value_of_name, value_of_option}
use Rattle.clap_reading.proofs.Uses.{Used, is_known, row_of_use, value_in}
use Rattle.clap_reading.proofs.Walks.{AllTexts, Arguments, closing, end_of, fails_later, fails_now, option_fails, option_once, rest_fault, step_end_is, step_fault_is, stuck_fails}
use Rattle.clap_reading.proofs.WordKinds.{WordKind, dashes, kind_of_word, listed, long, name, short}

-- What the listed commands read of the rest: after `--` each word is a name.
abbrev pub read : Bool → List Text → List Text → Option Given
read true options rest = Some (record { names = rest; marked = [] })
read false options rest = given options rest

-- The last check of a subcommand: whether each word that must be given was.
abbrev pub check_of : Text → List Rule → List Row → Kinds
check_of id c rows = check_fault (leaf id c) rows false

-- From this walk on, the parse of the rest comes to what the listed commands read.
abbrev pub ReadsFrom : Text → List Rule → List Text → List Text → Walk → List Text → List Text → List Used → Option Given → Type 0
ReadsFrom id c ids options w rest names marked g = Outcome ids options (check_of id c) (rest_fault id c w rest) (finished c (end_of c w rest)) names marked g

-- The parse of the rest comes to what the listed commands read, from each walk at rest.
abbrev pub AtRest : Text → List Rule → List Text → List Text → List Text → Type 0
AtRest id c ids options rest = (done : List Used) (last : Option Used) (names : List Text) (marked : List Used) (trailing : Bool) → Settles c done last
    → Story ids options (all_uses done last) names marked
    → ReadsFrom id c ids options (at_rest done last (length names + 1) trailing) rest names marked (read trailing options rest)

-- The parse of the rest comes to what the listed commands read, from each walk that waits for the
-- text of an option.
abbrev pub AtOption : Text → List Rule → List Text → List Text → List Text → Type 0
AtOption id c ids options rest = (opt : Text) (uses : List Used) (names : List Text) (marked : List Used) → Story ids options uses names marked → is_known options opt ≡ true
    → ReadsFrom id c ids options (at_option opt uses (length names + 1)) rest names marked (text_then options rest opt)

-- An outcome of faults and rows is one of equal faults and rows.
outcome_as : (ids options : List Text) (check : List Row → Kinds) (fault other : Kinds) (rows more : List Row) (names : List Text) (marked : List Used) (g : Option Given)
    → fault ≡ other → rows ≡ more → Outcome ids options check other more names marked g → Outcome ids options check fault rows names marked g
outcome_as ids options check fault other rows more names marked g e f outcome = rw (e, f) outcome

-- If the parse takes a word, the outcome is that of the walk after it.
goes_on : (id : Text) (c : List Rule) (ids options : List Text) (w after : Walk) (word : Text) (rest names : List Text) (marked : List Used) (g : Option Given)
    → turn_fault (leaf id c) [] w word ≡ [] → walked c [] w word ≡ after → ReadsFrom id c ids options after rest names marked g
    → ReadsFrom id c ids options w (word ∷ rest) names marked g
goes_on id c ids options w after word rest names marked g none same outcome =
    outcome_as ids options (check_of id c) (rest_fault id c w (word ∷ rest)) (rest_fault id c after rest) (finished c (end_of c w (word ∷ rest))) (finished c (end_of c after rest)) names marked g
    (step_fault_is id c w after word rest none same) (ap (finished c) (step_end_is c w after word rest same)) outcome

-- An outcome for a reading is one for an equal reading.
as_given : (id : Text) (c : List Rule) (ids options : List Text) (w : Walk) (rest names : List Text) (marked : List Used) (g h : Option Given) → g ≡ h
    → ReadsFrom id c ids options w rest names marked h → ReadsFrom id c ids options w rest names marked g
as_given id c ids options w rest names marked g h e outcome = rw e outcome

-- At the end of the words the last checks decide.
at_end : (id : Text) (c : List Rule) (ids options : List Text) → Arguments c ids options
    → (done : List Used) (last : Option Used) (names : List Text) (marked : List Used) (trailing : Bool) → Settles c done last
    → Story ids options (all_uses done last) names marked
    → Ending ids options (check_of id c) (closing id c (held_at done last)) (finished c (held_at done last)) (names ++ []) (marked ++ [])
at_end id c ids options arguments done last names marked trailing settles story =
    let rows : finished c (held_at done last) ≡ map row_of_use (all_uses done last)
    = arguments.no_default (rows_at_rest c done last) ∙ settled_at_rest c done last settles in
    let fault : closing id c (held_at done last) ≡ check_of id c (map row_of_use (all_uses done last))
    = ap (λ first. or_else first (or_else (defaults_fault (rows_at_rest c done last) c) (check_of id c (finished c (held_at done last))))) (settles_freely c done last settles)
    ∙ ap (λ first. or_else first (check_of id c (finished c (held_at done last)))) (arguments.no_default_fault (rows_at_rest c done last))
    ∙ ap (check_of id c) rows in
    rw (append-nil names, append-nil marked) (checked (all_uses done last) story fault rows)

-- At a name, clap and the listed commands go on alike.
name_step : (id : Text) (c : List Rule) (ids options : List Text) → Arguments c ids options → (word : Text) (rest : List Text) → AtRest id c ids options rest
    → (done : List Used) (last : Option Used) (names : List Text) (marked : List Used) (trailing : Bool) → Settles c done last
    → Story ids options (all_uses done last) names marked → GoesToPositional trailing word
    → ReadsFrom id c ids options (at_rest done last (length names + 1) trailing) (word ∷ rest) names marked (with_name word (read trailing options rest))
name_step id c ids options arguments word rest later done last names marked trailing settles story goes =
    elim (eqb_tells (length names) (length ids)) [
      | inl full ↦ too_many_names ids options (check_of id c) (rest_fault id c (at_rest done last (length names + 1) trailing) (word ∷ rest)) (finished c (end_of c (at_rest done last (length names + 1) trailing) (word ∷ rest))) names marked word (read trailing options rest)
          (fails_now id c (at_rest done last (length names + 1) trailing) word rest (stray_turn id c done last (length names + 1) trailing word goes (arguments.full names full.1)))
          (omega (arith, full.1))
      | inr free ↦ wanted free.1
    ]
  where
    position_is : (names : List Text) → length (names ++ word ∷ []) + 1 ≡ length names + 1 + 1
    position_is names = omega (arith, length-append names (word ∷ []))

    wanted : (length names ≡ length ids → ⊥) → ReadsFrom id c ids options (at_rest done last (length names + 1) trailing) (word ∷ rest) names marked (with_name word (read trailing options rest))
    wanted differ =
        let less : length names < length ids = omega (arith, story.few_names) in
        let next = some_at ids (length names) less in
        let at = arguments.at names next.0 next.1 in
        let other : is_known options next.0 ≡ false = arguments.named names next.0 next.1 in
        let fresh : value_in next.0 (all_uses done last) ≡ None
        = value_of_name ids options (all_uses done last) names marked next.0 story other ∙ arguments.fresh names next.0 next.1 in
        let far : min (length names + 1 + 1) usize_max ≡ length names + 1 + 1 = omega (arith, arguments.few) in
        let walks : walked c [] (at_rest done last (length names + 1) trailing) word ≡ at_rest (all_uses done last) (Some (next.0, word)) (length (names ++ word ∷ []) + 1) trailing
        = name_walks c done last (length names + 1) trailing word goes at.rule at.at at.once (all_uses done last) (settled_at_rest c done last settles) far
        ∙ ap₂ (λ i p. at_rest (all_uses done last) (Some (i, word)) p trailing) at.same (sym (position_is names)) in
        goes_on id c ids options (at_rest done last (length names + 1) trailing) (at_rest (all_uses done last) (Some (next.0, word)) (length (names ++ word ∷ []) + 1) trailing)
        word rest names marked (with_name word (read trailing options rest))
        (name_turn id c done last (length names + 1) trailing word goes at.rule at.at at.once.several ∙ settles_freely c done last settles) walks
        (behind_name ids options (check_of id c) _ _ names marked word (read trailing options rest)
        (later (all_uses done last) (Some (next.0, word)) (names ++ word ∷ []) marked trailing
        (record { rule = at.rule; found = at.found; same = at.same; once = at.once; fresh = fresh })
        (one_name ids options (all_uses done last) names marked next.0 word story next.1 less other)))

-- At an option with its text attached, clap and the listed commands go on alike.
attached_step : (id : Text) (c : List Rule) (ids options : List Text) → Arguments c ids options → (opt : Text) → is_known options opt ≡ true
    → (word text : Text) (rest : List Text) → AtRest id c ids options rest
    → bytes_eq word (codes "--") ≡ false → long_of word ≡ Some (opt, Some text)
    → (done : List Used) (last : Option Used) (names : List Text) (marked : List Used) → Settles c done last → Story ids options (all_uses done last) names marked
    → ReadsFrom id c ids options (at_rest done last (length names + 1) false) (word ∷ rest) names marked (with_text opt text (given options rest))
attached_step id c ids options arguments opt is word text rest later no_dashes read_as done last names marked settles story = here (value_in opt marked) refl
  where
    here : (taken : Option Text) → value_in opt marked ≡ taken
        → ReadsFrom id c ids options (at_rest done last (length names + 1) false) (word ∷ rest) names marked (with_text opt text (given options rest))
    here None none =
        let fresh : value_in opt (all_uses done last) ≡ None = value_of_option ids options (all_uses done last) names marked opt story is ∙ none in
        let rows = settled_at_rest c done last settles in
        let uses = all_uses done last ++ (opt, text) ∷ [] in
        let turn : turn_fault (leaf id c) [] (at_rest done last (length names + 1) false) word ≡ []
        = attached_turn id c opt done last (length names + 1) word text no_dashes read_as (arguments.option_long opt is)
        ∙ ap (λ first. or_else (or_else first (use_fault false (option_at opt) (text ∷ []) (rows_at_rest c done last))) []) (settles_freely c done last settles)
        ∙ ap (λ rows. or_else (use_fault false (option_at opt) (text ∷ []) rows) []) rows
        ∙ ap (λ kinds. or_else kinds []) (fault_once (option_at opt) (option_once opt) opt text (all_uses done last) refl fresh) in
        let walks : walked c [] (at_rest done last (length names + 1) false) word ≡ at_rest uses None (length names + 1) false
        = attached_walk c opt done last (length names + 1) word text no_dashes read_as (arguments.option_long opt is) uses
        (ap (used (option_at opt) (text ∷ [])) rows ∙ used_once (option_at opt) (option_once opt) opt text (all_uses done last) refl fresh) in
        goes_on id c ids options (at_rest done last (length names + 1) false) (at_rest uses None (length names + 1) false) word rest names marked (with_text opt text (given options rest)) turn walks
        (behind_option ids options (check_of id c) _ _ names marked opt text (given options rest)
        (later uses None names (marked ++ (opt, text) ∷ []) false tt (one_option ids options (all_uses done last) names marked opt text story is none)))
    here (Some earlier) some =
        let taken : value_in opt (all_uses done last) ≡ Some earlier = value_of_option ids options (all_uses done last) names marked opt story is ∙ some in
        let w = at_rest done last (length names + 1) false in
        let turn : turn_fault (leaf id c) [] w word ≡ or_else (use_fault false (option_at opt) (text ∷ []) (map row_of_use (all_uses done last))) []
        = attached_turn id c opt done last (length names + 1) word text no_dashes read_as (arguments.option_long opt is)
        ∙ ap (λ first. or_else (or_else first (use_fault false (option_at opt) (text ∷ []) (rows_at_rest c done last))) []) (settles_freely c done last settles)
        ∙ ap (λ rows. or_else (use_fault false (option_at opt) (text ∷ []) rows) []) (settled_at_rest c done last settles) in
        let fails : is_empty (turn_fault (leaf id c) [] w word) ≡ false
        = ap is_empty turn ∙ first_some (use_fault false (option_at opt) (text ∷ []) (map row_of_use (all_uses done last))) [] (fault_twice (option_at opt) (option_once opt) opt text earlier (all_uses done last) refl taken) in
        option_again ids options (check_of id c) (rest_fault id c w (word ∷ rest)) (finished c (end_of c w (word ∷ rest))) names marked opt text earlier (given options rest)
        (fails_now id c w word rest fails) some

-- At an option that waits for its text, clap and the listed commands go on alike.
alone_step : (id : Text) (c : List Rule) (ids options : List Text) → Arguments c ids options → (opt : Text) → is_known options opt ≡ true
    → (word : Text) (rest : List Text) → AtOption id c ids options rest
    → bytes_eq word (codes "--") ≡ false → long_of word ≡ Some (opt, None)
    → (done : List Used) (last : Option Used) (names : List Text) (marked : List Used) → Settles c done last → Story ids options (all_uses done last) names marked
    → ReadsFrom id c ids options (at_rest done last (length names + 1) false) (word ∷ rest) names marked (text_then options rest opt)
alone_step id c ids options arguments opt is word rest later no_dashes read_as done last names marked settles story =
    goes_on id c ids options (at_rest done last (length names + 1) false) (at_option opt (all_uses done last) (length names + 1)) word rest names marked (text_then options rest opt)
    (option_turn id c opt done last (length names + 1) word no_dashes read_as (arguments.option_long opt is) ∙ ap (λ first. or_else first []) (settles_freely c done last settles))
    (option_walk c opt done last (length names + 1) word no_dashes read_as (arguments.option_long opt is) (all_uses done last) (settled_at_rest c done last settles))
    (later opt (all_uses done last) names marked story is)

-- At an option, with its text attached or not, clap and the listed commands go on alike.
option_step : (id : Text) (c : List Rule) (ids options : List Text) → Arguments c ids options → (opt : Text) → is_known options opt ≡ true
    → (word : Text) (rest : List Text) → AtRest id c ids options rest → AtOption id c ids options rest
    → bytes_eq word (codes "--") ≡ false → (text : Option Text) → long_of word ≡ Some (opt, text)
    → (done : List Used) (last : Option Used) (names : List Text) (marked : List Used) → Settles c done last → Story ids options (all_uses done last) names marked
    → ReadsFrom id c ids options (at_rest done last (length names + 1) false) (word ∷ rest) names marked (text_given text opt (given options rest) (text_then options rest opt))
option_step id c ids options arguments opt is word rest later waiting no_dashes None read_as done last names marked settles story =
    alone_step id c ids options arguments opt is word rest waiting no_dashes read_as done last names marked settles story
option_step id c ids options arguments opt is word rest later waiting no_dashes (Some text) read_as done last names marked settles story =
    attached_step id c ids options arguments opt is word text rest later no_dashes read_as done last names marked settles story

-- At any word, if nothing is waited for, clap and the listed commands go on alike.
rest_step : (id : Text) (c : List Rule) (ids options : List Text) → Arguments c ids options
    → (word : Text) (rest : List Text) → AtRest id c ids options rest → AtOption id c ids options rest → WordKind options word
    → (done : List Used) (last : Option Used) (names : List Text) (marked : List Used) → Settles c done last → Story ids options (all_uses done last) names marked
    → ReadsFrom id c ids options (at_rest done last (length names + 1) false) (word ∷ rest) names marked (given options (word ∷ rest))
rest_step id c ids options arguments word rest later waiting (dashes e) done last names marked settles story =
    as_given id c ids options (at_rest done last (length names + 1) false) (word ∷ rest) names marked (given options (word ∷ rest)) (read true options rest) (given_dashes options word rest e)
    (goes_on id c ids options (at_rest done last (length names + 1) false) (at_rest done last (length names + 1) true) word rest names marked (read true options rest)
    (dashes_turn id c done last (length names + 1) word e) (dashes_walk c done last (length names + 1) word e)
    (later done last names marked true settles story))
rest_step id c ids options arguments word rest later waiting (name goes a b) done last names marked settles story =
    as_given id c ids options (at_rest done last (length names + 1) false) (word ∷ rest) names marked (given options (word ∷ rest)) (with_name word (given options rest))
    (given_name options word rest goes.no_dashes a b)
    (name_step id c ids options arguments word rest later done last names marked false settles story goes)
rest_step id c ids options arguments word rest later waiting (listed opt no_dashes is read_as a b) done last names marked settles story =
    as_given id c ids options (at_rest done last (length names + 1) false) (word ∷ rest) names marked (given options (word ∷ rest)) (text_given (option_text word) opt (given options rest) (text_then options rest opt))
    (given_option options word opt rest no_dashes a)
    (option_step id c ids options arguments opt is word rest later waiting no_dashes (option_text word) read_as done last names marked settles story)
rest_step id c ids options arguments word rest later waiting (long long_name text no_dashes read_as other a b) done last names marked settles story =
    as_given id c ids options (at_rest done last (length names + 1) false) (word ∷ rest) names marked (given options (word ∷ rest)) None
    (given_none options word rest no_dashes a b)
    (fails_now id c (at_rest done last (length names + 1) false) word rest
    (unknown_turn id c (held_at done last) idle (length names + 1) word long_name text no_dashes read_as (arguments.no_long long_name other)))
rest_step id c ids options arguments word rest later waiting (short flags first no_dashes no_long flags_are char many a b) done last names marked settles story =
    as_given id c ids options (at_rest done last (length names + 1) false) (word ∷ rest) names marked (given options (word ∷ rest)) None
    (given_none options word rest no_dashes a b)
    (fails_now id c (at_rest done last (length names + 1) false) word rest
    (short_turn id c (held_at done last) idle (length names + 1) word flags first no_dashes no_long flags_are char refl many arguments.no_short))

-- where the text of an option is waited for

-- An option that waits for its text can't be settled.
waiting_stuck : (c : List Rule) (ids options : List Text) → Arguments c ids options → (opt : Text) → is_known options opt ≡ true → (uses : List Used)
    → is_empty (settle_fault c false (held_waiting opt uses)) ≡ false
waiting_stuck c ids options arguments opt is uses = rw (arguments.option_id opt is) ((option_once opt).needs (map row_of_use uses))

-- At the text that an option waits for, clap and the listed commands go on alike.
option_takes : (id : Text) (c : List Rule) (ids options : List Text) → Arguments c ids options → (opt : Text) → is_known options opt ≡ true
    → (word : Text) (rest : List Text) → AllTexts rest → AtRest id c ids options rest → GoesToPositional false word
    → (uses : List Used) (names : List Text) (marked : List Used) → Story ids options uses names marked
    → ReadsFrom id c ids options (at_option opt uses (length names + 1)) (word ∷ rest) names marked (with_text opt word (given options rest))
option_takes id c ids options arguments opt is word rest texts later goes uses names marked story = here (value_in opt marked) refl
  where
    here : (taken : Option Text) → value_in opt marked ≡ taken
        → ReadsFrom id c ids options (at_option opt uses (length names + 1)) (word ∷ rest) names marked (with_text opt word (given options rest))
    here None none =
        let fresh : value_in opt uses ≡ None = value_of_option ids options uses names marked opt story is ∙ none in
        goes_on id c ids options (at_option opt uses (length names + 1)) (at_rest uses (Some (opt, word)) (length names + 1) false) word rest names marked (with_text opt word (given options rest))
        (text_turn id c opt uses (length names + 1) word goes) (text_walk c opt uses (length names + 1) word goes (arguments.option_id opt is))
        (behind_option ids options (check_of id c) _ _ names marked opt word (given options rest)
        (later uses (Some (opt, word)) names (marked ++ (opt, word) ∷ []) false
        (record { rule = option_at opt; found = arguments.option_id opt is; same = refl; once = option_once opt; fresh = fresh })
        (one_option ids options uses names marked opt word story is none)))
    here (Some earlier) some =
        let taken : value_in opt uses ≡ Some earlier = value_of_option ids options uses names marked opt story is ∙ some in
        let stuck : is_empty (settle_fault c false (held_at uses (Some (opt, word)))) ≡ false
        = rw (arguments.option_id opt is) (fault_twice (option_at opt) (option_once opt) opt word earlier uses refl taken) in
        let w = at_option opt uses (length names + 1) in
        option_again ids options (check_of id c) (rest_fault id c w (word ∷ rest)) (finished c (end_of c w (word ∷ rest))) names marked opt word earlier (given options rest)
        (fails_later id c w (at_rest uses (Some (opt, word)) (length names + 1) false) word rest
        (text_turn id c opt uses (length names + 1) word goes) (text_walk c opt uses (length names + 1) word goes (arguments.option_id opt is))
        (stuck_fails id c ids options arguments (held_at uses (Some (opt, word))) refl stuck rest texts idle (length names + 1) false (inl refl)))
        some

-- At any word, if an option waits for its text, clap and the listed commands go on alike.
option_stays : (id : Text) (c : List Rule) (ids options : List Text) → Arguments c ids options → (opt : Text) → is_known options opt ≡ true
    → (word : Text) (rest : List Text) → AllTexts rest → AtRest id c ids options rest → WordKind options word
    → (uses : List Used) (names : List Text) (marked : List Used) → Story ids options uses names marked
    → ReadsFrom id c ids options (at_option opt uses (length names + 1)) (word ∷ rest) names marked (text_then options (word ∷ rest) opt)
option_stays id c ids options arguments opt is word rest texts later (dashes e) uses names marked story =
    as_given id c ids options (at_option opt uses (length names + 1)) (word ∷ rest) names marked (text_then options (word ∷ rest) opt) None
    (waits_for_option options opt word rest (dashes_are_option word e))
    (fails_later id c (at_option opt uses (length names + 1)) (at_option_trailing opt uses (length names + 1)) word rest
    (waiting_dashes_turn id c opt uses (length names + 1) word e) (waiting_dashes_walk c opt uses (length names + 1) word e)
    (stuck_fails id c ids options arguments (held_waiting opt uses) refl (waiting_stuck c ids options arguments opt is uses) rest texts (option opt) (length names + 1) true (inr refl)))
option_stays id c ids options arguments opt is word rest texts later (name goes a b) uses names marked story =
    as_given id c ids options (at_option opt uses (length names + 1)) (word ∷ rest) names marked (text_then options (word ∷ rest) opt) (with_text opt word (given options rest))
    (waits_for_name options opt word rest b)
    (option_takes id c ids options arguments opt is word rest texts later goes uses names marked story)
option_stays id c ids options arguments opt is word rest texts later (listed other no_dashes still read_as a b) uses names marked story =
    as_given id c ids options (at_option opt uses (length names + 1)) (word ∷ rest) names marked (text_then options (word ∷ rest) opt) None
    (waits_for_option options opt word rest b)
    (fails_now id c (at_option opt uses (length names + 1)) word rest
    (option_fails id c other (held_waiting opt uses) (option opt) (length names + 1) word (option_text word) no_dashes read_as (arguments.option_long other still) (waiting_stuck c ids options arguments opt is uses)))
option_stays id c ids options arguments opt is word rest texts later (long long_name text no_dashes read_as unlisted a b) uses names marked story =
    as_given id c ids options (at_option opt uses (length names + 1)) (word ∷ rest) names marked (text_then options (word ∷ rest) opt) None
    (waits_for_option options opt word rest b)
    (fails_now id c (at_option opt uses (length names + 1)) word rest
    (unknown_turn id c (held_waiting opt uses) (option opt) (length names + 1) word long_name text no_dashes read_as (arguments.no_long long_name unlisted)))
option_stays id c ids options arguments opt is word rest texts later (short flags first no_dashes no_long flags_are char many a b) uses names marked story =
    as_given id c ids options (at_option opt uses (length names + 1)) (word ∷ rest) names marked (text_then options (word ∷ rest) opt) None
    (waits_for_option options opt word rest b)
    (fails_now id c (at_option opt uses (length names + 1)) word rest
    (short_turn id c (held_waiting opt uses) (option opt) (length names + 1) word flags first no_dashes no_long flags_are char refl many arguments.no_short))

-- all the words

-- The parse of these words comes to what is listed, from both kinds of walk.
abbrev pub ReadsAll : Text → List Rule → List Text → List Text → List Text → Type 0
ReadsAll id c ids options rest = AtRest id c ids options rest × AtOption id c ids options rest

-- The parse of all words that are texts comes to what is listed, from both kinds of walk.
pub reads_all : (id : Text) (c : List Rule) (ids options : List Text) → Arguments c ids options
    → (rest : List Text) → AllTexts rest → ReadsAll id c ids options rest
unfolding walk_fault
reads_all id c ids options arguments [] texts = (
  λ done last names marked trailing settles story. rw (read_nothing trailing) (at_end id c ids options arguments done last names marked trailing settles story),
  λ opt uses names marked story is. rw (waits_in_vain options opt)
      (first_some (settle_fault c false (held_waiting opt uses)) (or_else (defaults_fault (settled c (held_waiting opt uses)).rows c) (check_of id c (finished c (held_waiting opt uses))))
      (waiting_stuck c ids options arguments opt is uses)),
)
  where
    read_nothing : (trailing : Bool) → read trailing options [] ≡ Some (record { names = []; marked = [] })
    read_nothing true = refl
    read_nothing false = given_nothing options
reads_all id c ids options arguments (word ∷ rest) texts =
    let later = reads_all id c ids options arguments rest texts.1 in
    let kind = kind_of_word options word texts.0 in (
      λ done last names marked trailing settles story. by_trailing later kind trailing done last names marked settles story,
      λ opt uses names marked story is. option_stays id c ids options arguments opt is word rest texts.1 later.0 kind uses names marked story,
    )
  where
    by_trailing : ReadsAll id c ids options rest → WordKind options word → (trailing : Bool) (done : List Used) (last : Option Used) (names : List Text) (marked : List Used) → Settles c done last
        → Story ids options (all_uses done last) names marked
        → ReadsFrom id c ids options (at_rest done last (length names + 1) trailing) (word ∷ rest) names marked (read trailing options (word ∷ rest))
    by_trailing later kind true done last names marked settles story = name_step id c ids options arguments word rest later.0 done last names marked true settles story tt
    by_trailing later kind false done last names marked settles story =
        rest_step id c ids options arguments word rest later.0 later.1 kind done last names marked settles story
