-- What a word after a subcommand is, as `clap` reads it and as the listed commands do. 45 is the
-- dash, 61 the equals sign. For Walks, Readings and TopWords.
use Rattle.std.proofs.Common.{◌≡◌, ℕ, suc, ◌+◌, ◌<◌, Bool, true, false, cond, List, [], ◌∷◌, drop, length, Option, Some, None, refl, sym, ap, subst, ◌∙◌, arith, codes, inl, inr}
use Rattle.std.specs.Prelude.{nat_eq}
use Rattle.std.specs.List.{after_first, before_first, list_any, position_or_len, slice_get}
use Rattle.std.specs.Char.{encode_utf8}
use Rattle.std.specs.Str.{IsUtf8, bytes_eq, chars}
use Rattle.std.proofs.lemmas.Bool.Decides.{eqb_tells}
use Rattle.std.proofs.Math.Utf8.{encodes}
use Rattle.std.proofs.lemmas.Str.{encodes-chars}
use Rattle.clap.specs.Lexer.{long_of, name_and_value, short_of}
use Rattle.clap.specs.Walk.{Text}
use Rattle.command_words.specs.Listed.{is_option, long_word, option_name, option_of, option_text}
use Rattle.command_words.proofs.GivenWords.{before-cons, before-equals, begins_no_option, none_of, two}
use Rattle.clap_reading.proofs.Steps.{IsNameWord}
use Rattle.clap_reading.proofs.Uses.{flipped, is_known, same_bytes, same_text}

-- The kinds of a word, with what both readers make of it.
pub data WordKind (options : List Text) (word : Text) : Type 0 where
  -- `--`
  dashes : bytes_eq word (codes "--") ≡ true → WordKind options word
  -- a name
  name : IsNameWord word → option_of options word ≡ None → is_option word ≡ false → WordKind options word
  -- one of the options, with an attached text or without
  listed : (opt : Text) → bytes_eq word (codes "--") ≡ false → is_known options opt ≡ true → long_of word ≡ Some (opt, option_text word)
      → option_of options word ≡ Some opt → is_option word ≡ true → WordKind options word
  -- another long option
  long : (long_name : Text) (text : Option Text) → bytes_eq word (codes "--") ≡ false → long_of word ≡ Some (long_name, text)
      → is_known options long_name ≡ false → option_of options word ≡ None → is_option word ≡ true → WordKind options word
  -- short options
  short : (flags : Text) (first : ℕ) → bytes_eq word (codes "--") ≡ false → long_of word ≡ None → short_of word ≡ Some flags
      → slice_get (chars flags) 0 ≡ Some first → 0 < length flags → option_of options word ≡ None → is_option word ≡ true → WordKind options word

-- The byte is `=`.
abbrev is_equals : ℕ → Bool
is_equals b = nat_eq b 61

-- What comes after the first `=`, if the first byte is none.
after-cons : (x : ℕ) (xs : Text) → is_equals x ≡ false → after_first is_equals (x ∷ xs) ≡ after_first is_equals xs
after-cons x xs e =
    let more : position_or_len is_equals (x ∷ xs) + 1 ≡ suc (position_or_len is_equals xs + 1) = rw e (omega arith) in
    ap (λ n. drop n (x ∷ xs)) more

-- A word with one dash is no long option.
no_long_option : (b : ℕ) (rest id : Text) → nat_eq b 45 ≡ false → bytes_eq (option_name (45 ∷ b ∷ rest)) (long_word id) ≡ false
no_long_option b rest id other = rw (before-cons 45 (b ∷ rest) refl) (go (is_equals b) refl)
  where
    go : (e : Bool) → is_equals b ≡ e → bytes_eq (45 ∷ before_first is_equals (b ∷ rest)) (long_word id) ≡ false
    go true e = rw (before-equals b rest e) refl
    go false e = rw (before-cons b rest e, other) refl

-- The name of a long option is what comes before the `=`.
long_name-option_name : (rest : Text) → option_name (45 ∷ 45 ∷ rest) ≡ 45 ∷ 45 ∷ before_first is_equals rest
long_name-option_name rest = before-cons 45 (45 ∷ rest) refl ∙ ap (λ name. 45 ∷ name) (before-cons 45 rest refl)

-- The attached text of a long option is what comes after the `=`.
long_text : (rest : Text) → option_text (45 ∷ 45 ∷ rest) ≡ (name_and_value rest).1
long_text rest =
    ap (λ text. cond (list_any is_equals rest) (Some text) None) (after-cons 45 (45 ∷ rest) refl ∙ after-cons 45 rest refl)

-- A word of a dash and more has a first character after the dash.
first_char : (b : ℕ) (rest : Text) → IsUtf8 (45 ∷ b ∷ rest) → (first : ℕ) × (slice_get (chars (b ∷ rest)) 0 ≡ Some first)
unfolding chars encode_utf8
first_char b rest utf8 = go (chars (b ∷ rest)) refl
  where
    go : (cs : List ℕ) → chars (b ∷ rest) ≡ cs → (first : ℕ) × (slice_get cs 0 ≡ Some first)
    go [] e =
        let whole : chars (45 ∷ b ∷ rest) ≡ 45 ∷ [] = ap (λ cs. 45 ∷ cs) e in
        let one : encodes (45 ∷ []) ≡ 45 ∷ b ∷ rest = sym (ap encodes whole) ∙ encodes-chars (45 ∷ b ∷ rest) utf8 in
        let few : 1 ≡ length (45 ∷ b ∷ rest) = ap length one in
        absurd (omega arith)
    go (first ∷ cs) e = (first, refl)

-- A word without a dash at its front may be a name.
plain_at : (options : List Text) (b : ℕ) (rest : Text) → nat_eq b 45 ≡ false → WordKind options (b ∷ rest)
plain_at options b rest other =
    name (record { no_dashes = rw other refl; no_long = rw other refl; no_short = rw other refl })
    (none_of options (b ∷ rest) (λ id. begins_no_option b rest id other)) (rw other refl)

-- A word of one dash and more has short options.
short_at : (options : List Text) (b : ℕ) (rest : Text) → IsUtf8 (45 ∷ b ∷ rest) → nat_eq b 45 ≡ false → WordKind options (45 ∷ b ∷ rest)
short_at options b rest utf8 other =
    let char = first_char b rest utf8 in
    short (b ∷ rest) char.0 (rw other refl) (rw other refl) (rw other refl) char.1 (omega arith)
    (none_of options (45 ∷ b ∷ rest) (λ id. no_long_option b rest id other)) (two rest 45 b)

-- A word with a long option's name is one of the options, or none.
data ByName (options : List Text) (word called : Text) : Type 0 where
  -- the name is that of one of the options
  known : option_of options word ≡ Some called → is_known options called ≡ true → ByName options word called
  -- the name is that of none of the options
  unknown : option_of options word ≡ None → is_known options called ≡ false → ByName options word called

-- A word with a long option's name has the name of one of the options, or of none.
by_name : (options : List Text) (word called : Text) → option_name word ≡ long_word called → ByName options word called
by_name [] word called e = unknown refl refl
by_name (own ∷ options) word called e = here (bytes_eq own called) refl (by_name options word called e)
  where
    first_is : (b : Bool) → bytes_eq called own ≡ b → bytes_eq (option_name word) (long_word own) ≡ b
    first_is b f = ap (λ front. bytes_eq front (long_word own)) e ∙ f

    later : bytes_eq own called ≡ false → ByName options word called → ByName (own ∷ options) word called
    later f (known found is) = known (rw (first_is false (flipped own called f)) found) (rw f is)
    later f (unknown none other) = unknown (rw (first_is false (flipped own called f)) none) (rw f other)

    here : (b : Bool) → bytes_eq own called ≡ b → ByName options word called → ByName (own ∷ options) word called
    here true f rest =
        let same : own ≡ called = same_text own called f in
        let back : bytes_eq called own ≡ true = subst (λ x. bytes_eq called x ≡ true) (sym same) (same_bytes called) in
        known (rw (first_is true back) (ap Some same)) (rw f refl)
    here false f rest = later f rest

-- A word of two dashes and more is of some kind.
long_at : (options : List Text) (x : ℕ) (rest : Text) → WordKind options (45 ∷ 45 ∷ x ∷ rest)
long_at options x rest = go (by_name options (45 ∷ 45 ∷ x ∷ rest) (before_first is_equals (x ∷ rest)) (long_name-option_name (x ∷ rest)))
  where
    read : long_of (45 ∷ 45 ∷ x ∷ rest) ≡ Some (before_first is_equals (x ∷ rest), option_text (45 ∷ 45 ∷ x ∷ rest))
    read = rw (long_text (x ∷ rest)) refl

    go : ByName options (45 ∷ 45 ∷ x ∷ rest) (before_first is_equals (x ∷ rest)) → WordKind options (45 ∷ 45 ∷ x ∷ rest)
    go (known found is) = listed (before_first is_equals (x ∷ rest)) refl is read found (two (x ∷ rest) 45 45)
    go (unknown none other) =
        long (before_first is_equals (x ∷ rest)) (name_and_value (x ∷ rest)).1 refl refl other none (two (x ∷ rest) 45 45)

-- A word of two dashes, alone or with more, is of some kind.
dashes_at : (options : List Text) (rest : Text) → WordKind options (45 ∷ 45 ∷ rest)
dashes_at options [] = dashes refl
dashes_at options (x ∷ rest) = long_at options x rest

-- A word of a dash and more is of some kind.
behind_dash : (options : List Text) (c : ℕ) (rest : Text) → IsUtf8 (45 ∷ c ∷ rest) → WordKind options (45 ∷ c ∷ rest)
behind_dash options c rest utf8 =
    elim (eqb_tells c 45) [
      | inl dash ↦ let family : ℕ → Type 0 = λ n. WordKind options (45 ∷ n ∷ rest) in subst family (sym dash.1) (dashes_at options rest)
      | inr other ↦ short_at options c rest utf8 other.0
    ]

-- Each word that is a text is of some kind.
pub kind_of_word : (options : List Text) (word : Text) → IsUtf8 word → WordKind options word
kind_of_word options [] utf8 = name (record { no_dashes = refl; no_long = refl; no_short = refl }) (none_of options [] (λ id. refl)) refl
kind_of_word options (b ∷ []) utf8 =
    elim (eqb_tells b 45) [
      | inl dash ↦ let family : ℕ → Type 0 = λ n. WordKind options (n ∷ []) in subst family (sym dash.1)
          (name (record { no_dashes = refl; no_long = refl; no_short = refl }) (none_of options (45 ∷ []) (λ id. refl)) refl)
      | inr other ↦ plain_at options b [] other.0
    ]
kind_of_word options (b ∷ c ∷ rest) utf8 =
    elim (eqb_tells b 45) [
      | inl dash ↦ let family : ℕ → Type 0 = λ n. IsUtf8 (n ∷ c ∷ rest) → WordKind options (n ∷ c ∷ rest) in
          subst family (sym dash.1) (λ clean. behind_dash options c rest clean) utf8
      | inr other ↦ plain_at options b (c ∷ rest) other.0
    ]
