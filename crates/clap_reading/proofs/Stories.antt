-- What the words after a subcommand come to: the names and options that are read, and the uses that
-- the parse holds. A use is an argument with the text that it was given. For Readings, Subcommands
-- and TopWords.
use Rattle.std.proofs.Common.{◌≡◌, ℕ, zero, suc, ◌<◌, ◌≤◌, true, false, List, [], ◌∷◌, ◌++◌, map, filter, length, Option, Some, None, refl, sym, ap, ◌∙◌, arith, append_assoc, length-append, inl, inr}
use Rattle.std.specs.Prelude.{◌⊎◌}
use Rattle.std.specs.List.{slice_get, zip}
use Rattle.std.proofs.lemmas.List.{append-nil}
use Rattle.std.proofs.lemmas.List.Elements.{filter-append}
use Rattle.clap.specs.Kinds.{Kinds}
use Rattle.clap.specs.Walk.{Row, Text, is_empty}
use Rattle.command_words.specs.Listed.{Given, stand_once, with_name, with_text}
use Rattle.clap_reading.proofs.Uses.{Used, is_known, is_marked, is_name, once_push, row_of_use, stands_twice, value_in, value_in-marked, value_in-names}

-- The uses are those of these names, one for each argument in turn, and of these options, each at
-- most once.
pub record Story (ids options : List Text) (uses : List Used) (names : List Text) (marked : List Used) : Type 0 where
  -- the uses of words are those of the names, one for each argument in turn
  pub names_are : filter (is_name options) uses ≡ zip ids names
  -- the uses of options are those that were given
  pub marked_are : filter (is_marked options) uses ≡ marked
  -- there are no more names than arguments
  pub few_names : length names ≤ length ids
  -- no option was given twice
  pub once : stand_once marked ≡ true

-- With no word there are no uses.
pub begun : (ids options : List Text) → Story ids options [] [] []
begun [] options = record { names_are = refl; marked_are = refl; few_names = omega arith; once = refl }
begun (id ∷ ids) options = record { names_are = refl; marked_are = refl; few_names = omega arith; once = refl }

-- One name more goes to the next argument.
zip_push : (ids names : List Text) (id word : Text) → slice_get ids (length names) ≡ Some id → zip ids (names ++ word ∷ []) ≡ zip ids names ++ (id, word) ∷ []
zip_push [] [] id word at = cc
zip_push [] (n ∷ names) id word at = cc
zip_push (i ∷ ids) [] id word at = let same : i ≡ id = cc in rw same (zip_none ids id word)
  where
    zip_none : (ids : List Text) (id word : Text) → (id, word) ∷ zip ids [] ≡ (id, word) ∷ []
    zip_none [] id word = refl
    zip_none (j ∷ ids) id word = refl
zip_push (i ∷ ids) (n ∷ names) id word at = ap (λ rest. (i, n) ∷ rest) (zip_push ids names id word at)

-- There is an argument at each place below their number.
pub some_at : (ids : List Text) (n : ℕ) → n < length ids → (id : Text) × (slice_get ids n ≡ Some id)
some_at [] n less = absurd (omega arith)
some_at (i ∷ ids) zero less = (i, refl)
some_at (i ∷ ids) (suc n) less = some_at ids n (omega arith)

-- With one name more the uses are still those of the names and options.
pub one_name : (ids options : List Text) (uses : List Used) (names : List Text) (marked : List Used) (id word : Text) → Story ids options uses names marked
    → slice_get ids (length names) ≡ Some id → length names < length ids → is_known options id ≡ false
    → Story ids options (uses ++ (id, word) ∷ []) (names ++ word ∷ []) marked
one_name ids options uses names marked id word story at more other = record {
  names_are = filter-append (is_name options) uses ((id, word) ∷ []) ∙ rw other (ap (λ front. front ++ (id, word) ∷ []) story.names_are ∙ sym (zip_push ids names id word at));
  marked_are = filter-append (is_marked options) uses ((id, word) ∷ []) ∙ rw other (append-nil (filter (is_marked options) uses) ∙ story.marked_are);
  few_names = omega (arith, length-append names (word ∷ []), more);
  once = story.once;
}

-- With one option more, which was not given before, the uses are still those of the names and
-- options.
pub one_option : (ids options : List Text) (uses : List Used) (names : List Text) (marked : List Used) (id text : Text) → Story ids options uses names marked
    → is_known options id ≡ true → value_in id marked ≡ None
    → Story ids options (uses ++ (id, text) ∷ []) names (marked ++ (id, text) ∷ [])
one_option ids options uses names marked id text story is fresh = record {
  names_are = filter-append (is_name options) uses ((id, text) ∷ []) ∙ rw is (append-nil (filter (is_name options) uses) ∙ story.names_are);
  marked_are = filter-append (is_marked options) uses ((id, text) ∷ []) ∙ rw is (ap (λ front. front ++ (id, text) ∷ []) story.marked_are);
  few_names = story.few_names;
  once = once_push id text marked fresh story.once;
}

-- The text of an argument that is no option is found among those that the names give.
pub value_of_name : (ids options : List Text) (uses : List Used) (names : List Text) (marked : List Used) (id : Text) → Story ids options uses names marked
    → is_known options id ≡ false → value_in id uses ≡ value_in id (zip ids names)
value_of_name ids options uses names marked id story other = value_in-names options id other uses ∙ ap (value_in id) story.names_are

-- The text of an option is the one that was given.
pub value_of_option : (ids options : List Text) (uses : List Used) (names : List Text) (marked : List Used) (id : Text) → Story ids options uses names marked
    → is_known options id ≡ true → value_in id uses ≡ value_in id marked
value_of_option ids options uses names marked id story is = value_in-marked options id is uses ∙ ap (value_in id) story.marked_are

-- How a parse ends that reads these names and options: it fails if there are too many names or an
-- option is given twice; else the last checks decide, over the rows of the uses.
pub data Ending (ids options : List Text) (check : List Row → Kinds) (fault : Kinds) (rows : List Row) (names : List Text) (marked : List Used) : Type 0 where
  -- There are too many names, or an option is given twice.
  faulty : is_empty fault ≡ false → (length ids < length names) ⊎ (stand_once marked ≡ false) → Ending ids options check fault rows names marked
  -- The last checks decide.
  checked : (uses : List Used) → Story ids options uses names marked → fault ≡ check (map row_of_use uses) → rows ≡ map row_of_use uses
      → Ending ids options check fault rows names marked

-- How a parse ends after names and options that are read already, if the rest gives these: as
-- `Ending` says of all of them. A rest that gives nothing is a fault.
abbrev pub Outcome : List Text → List Text → (List Row → Kinds) → Kinds → List Row → List Text → List Used → Option Given → Type 0
Outcome ids options check fault rows names marked None = is_empty fault ≡ false
Outcome ids options check fault rows names marked (Some g) = Ending ids options check fault rows (names ++ g.names) (marked ++ g.marked)

-- The outcome after a name is that with the name read already.
pub behind_name : (ids options : List Text) (check : List Row → Kinds) (fault : Kinds) (rows : List Row) (names : List Text) (marked : List Used) (word : Text) (g : Option Given)
    → Outcome ids options check fault rows (names ++ word ∷ []) marked g → Outcome ids options check fault rows names marked (with_name word g)
behind_name ids options check fault rows names marked word None outcome = outcome
behind_name ids options check fault rows names marked word (Some g) outcome = rw (← append_assoc names (word ∷ []) g.names) outcome

-- The outcome after an option is that with the option read already.
pub behind_option : (ids options : List Text) (check : List Row → Kinds) (fault : Kinds) (rows : List Row) (names : List Text) (marked : List Used) (id text : Text) (g : Option Given)
    → Outcome ids options check fault rows names (marked ++ (id, text) ∷ []) g → Outcome ids options check fault rows names marked (with_text id text g)
behind_option ids options check fault rows names marked id text None outcome = outcome
behind_option ids options check fault rows names marked id text (Some g) outcome = rw (← append_assoc marked ((id, text) ∷ []) g.marked) outcome

-- An option that is given again is a fault, whatever follows.
pub option_again : (ids options : List Text) (check : List Row → Kinds) (fault : Kinds) (rows : List Row) (names : List Text) (marked : List Used) (id text earlier : Text)
    (g : Option Given) → is_empty fault ≡ false → value_in id marked ≡ Some earlier → Outcome ids options check fault rows names marked (with_text id text g)
option_again ids options check fault rows names marked id text earlier None fails taken = fails
option_again ids options check fault rows names marked id text earlier (Some g) fails taken = faulty fails (inr (stands_twice id text earlier marked g.marked taken))

-- A name too many is a fault, whatever follows.
pub too_many_names : (ids options : List Text) (check : List Row → Kinds) (fault : Kinds) (rows : List Row) (names : List Text) (marked : List Used) (word : Text) (g : Option Given)
    → is_empty fault ≡ false → length ids ≤ length names → Outcome ids options check fault rows names marked (with_name word g)
too_many_names ids options check fault rows names marked word None fails full = fails
too_many_names ids options check fault rows names marked word (Some g) fails full = faulty fails (inl (omega (arith, length-append names (word ∷ g.names))))
