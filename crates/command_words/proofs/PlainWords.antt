-- What words give that are names, with `--` or an option among them. For the laws of src/laws.rt,
-- `law_of_names` and `law_of_options`.
use Rattle.std.proofs.Common.{◌≡◌, List, [], ◌∷◌, ◌++◌, Option, Some, refl, ap, ◌∙◌, codes}
use Rattle.command_words.specs.Listed.{AreNames, IsName, IsOptionOf, Given, Marked, given, long_word, text_given, text_then, with_name, with_text}
use Rattle.command_words.specs.Table.{Text, outside_options, run_options, turret_options}
use Rattle.command_words.proofs.GivenWords.{given_dashes, given_nothing, given_option, name_then, waits_for_name}

-- these names and these options were given
abbrev pub just : List Text → List Marked → Option Given
just words marked = Some (record { names = words; marked = marked })

-- names before any words come before their names
names_before : (options before rest names : List Text) (marked : List Marked) → AreNames before → given options rest ≡ just names marked
    → given options (before ++ rest) ≡ just (before ++ names) marked
names_before options [] rest names marked plain e = e
names_before options (word ∷ before) rest names marked plain e =
    name_then options word (before ++ rest) plain.0.1
    ∙ ap (with_name word) (names_before options before rest names marked plain.1 e)

-- names alone give themselves
pub names_alone : (options words : List Text) → AreNames words → given options words ≡ just words []
names_alone options [] plain = given_nothing options
names_alone options (word ∷ words) plain =
    name_then options word words plain.0.1 ∙ ap (with_name word) (names_alone options words plain.1)

-- names, `--`, and then any words give all of them but `--` as names
pub behind_dashes : (options before after : List Text) → AreNames before → given options (before ++ codes "--" ∷ after) ≡ just (before ++ after) []
behind_dashes options before after plain = names_before options before (codes "--" ∷ after) after [] plain (given_dashes options (codes "--") after refl)

-- an option among names, with its text as the next word, gives the names and the option
pub option_apart : (options before after : List Text) (id text : Text) → IsOptionOf options id → AreNames before → IsName text → AreNames after
    → given options (before ++ long_word id ∷ text ∷ after) ≡ just (before ++ after) ((id, text) ∷ [])
option_apart options before after id text is plain is_name later =
    names_before options before (long_word id ∷ text ∷ after) after ((id, text) ∷ []) plain
    (given_option options (long_word id) id (text ∷ after) is.named is.own
    ∙ ap (λ t. text_given t id (given options (text ∷ after)) (text_then options (text ∷ after) id)) is.alone
    ∙ waits_for_name options id text after is_name.1
    ∙ ap (with_text id text) (names_alone options after later))

-- an option among names, with its text after `=`, gives the names and the option
pub option_attached : (options before after : List Text) (id text : Text) → IsOptionOf options id → AreNames before → AreNames after
    → given options (before ++ (long_word id ++ 61 ∷ text) ∷ after) ≡ just (before ++ after) ((id, text) ∷ [])
option_attached options before after id text is plain later =
    names_before options before ((long_word id ++ 61 ∷ text) ∷ after) after ((id, text) ∷ []) plain
    (given_option options (long_word id ++ 61 ∷ text) id after (is.with text).0 (is.with text).1
    ∙ ap (λ t. text_given t id (given options after) (text_then options after id)) (is.with text).2
    ∙ ap (with_text id text) (names_alone options after later))

-- `--outside` is an option of `waits`, alone or with its text attached
pub outside_is : IsOptionOf outside_options (codes "outside")
outside_is = record { named = refl; own = refl; alone = refl; with = λ text. (refl, refl, refl) }

-- `--blocks` is an option of `run`, alone or with its text attached
pub blocks_is : IsOptionOf run_options (codes "blocks")
blocks_is = record { named = refl; own = refl; alone = refl; with = λ text. (refl, refl, refl) }

-- `--turret1` is an option of `run` and of `make`, alone or with its text attached
pub turret1_is : IsOptionOf run_options (codes "turret1") × IsOptionOf turret_options (codes "turret1")
turret1_is = (record { named = refl; own = refl; alone = refl; with = λ text. (refl, refl, refl) }, record { named = refl; own = refl; alone = refl; with = λ text. (refl, refl, refl) })

-- `--turret2` is an option of `run` and of `make`, alone or with its text attached
pub turret2_is : IsOptionOf run_options (codes "turret2") × IsOptionOf turret_options (codes "turret2")
turret2_is = (record { named = refl; own = refl; alone = refl; with = λ text. (refl, refl, refl) }, record { named = refl; own = refl; alone = refl; with = λ text. (refl, refl, refl) })
