-- How the grammar of specs/Listed.antt reads words, one after another. For PlainWords.antt.
use Rattle.std.proofs.Common.{◌≡◌, ℕ, Bool, true, false, ◌&&◌, List, [], ◌∷◌, take, Some, None, refl, sym, ap, subst, ◌∙◌, arith, suc, codes, inl, inr}
use Rattle.std.specs.Prelude.{nat_eq, length, nat_le}
use Rattle.std.specs.List.{before_first, position_or_len}
use Rattle.std.specs.Str.{bytes_eq}
use Rattle.std.proofs.lemmas.Bool.{le-leb}
use Rattle.std.proofs.lemmas.Bool.Decides.{eqb_tells}
use Rattle.std.proofs.lemmas.Slice.Eq.{bytes_eq-Decides}
use Rattle.command_words.specs.Listed.{given, is_option, long_word, option_name, option_of, option_text, text_given, text_then, with_name, with_text}
use Rattle.command_words.specs.Table.{Text}

-- no words give nothing
pub given_nothing : (options : List Text) → given options [] ≡ Some (record { names = []; marked = [] })
unfolding given
given_nothing options = refl

-- after `--` all words are names
pub given_dashes : (options : List Text) (word : Text) (rest : List Text) → bytes_eq word (codes "--") ≡ true → given options (word ∷ rest) ≡ Some (record { names = rest; marked = [] })
unfolding given
given_dashes options word rest e = rw e refl

-- a word that is no option is a name
pub given_name : (options : List Text) (word : Text) (rest : List Text) → bytes_eq word (codes "--") ≡ false → option_of options word ≡ None → is_option word ≡ false
    → given options (word ∷ rest) ≡ with_name word (given options rest)
unfolding given
given_name options word rest a b d = rw (a, b, d) refl

-- an option takes its attached text or the next word
pub given_option : (options : List Text) (word id : Text) (rest : List Text) → bytes_eq word (codes "--") ≡ false → option_of options word ≡ Some id
    → given options (word ∷ rest) ≡ text_given (option_text word) id (given options rest) (text_then options rest id)
unfolding given
given_option options word id rest a b = rw (a, b) refl

-- a word that begins with `-` and is none of the options is refused
pub given_none : (options : List Text) (word : Text) (rest : List Text) → bytes_eq word (codes "--") ≡ false → option_of options word ≡ None → is_option word ≡ true
    → given options (word ∷ rest) ≡ None
unfolding given
given_none options word rest a b d = rw (a, b, d) refl

-- an option without a word after it is refused
pub waits_in_vain : (options : List Text) (id : Text) → text_then options [] id ≡ None
unfolding text_then
waits_in_vain options id = refl

-- an option takes the next word as its text
pub waits_for_name : (options : List Text) (id word : Text) (rest : List Text) → is_option word ≡ false → text_then options (word ∷ rest) id ≡ with_text id word (given options rest)
unfolding text_then
waits_for_name options id word rest e = rw e refl

-- an option whose next word begins with `-` is refused
pub waits_for_option : (options : List Text) (id word : Text) (rest : List Text) → is_option word ≡ true → text_then options (word ∷ rest) id ≡ None
unfolding text_then
waits_for_option options id word rest e = rw e refl

-- `--` itself begins with `-`
pub dashes_are_option : (word : Text) → bytes_eq word (codes "--") ≡ true → is_option word ≡ true
dashes_are_option word e = rw ((bytes_eq-Decides word (codes "--")).0 e) refl

-- a word that does not begin with `-`, or is `-` itself, is a name

-- the byte is the character `=`, which is 61
abbrev is_equals : ℕ → Bool
is_equals b = nat_eq b 61

-- a character that is not `=` belongs to the option's name
pub before-cons : (x : ℕ) (xs : Text) → is_equals x ≡ false → before_first is_equals (x ∷ xs) ≡ x ∷ before_first is_equals xs
before-cons x xs e =
    let more : position_or_len is_equals (x ∷ xs) ≡ suc (position_or_len is_equals xs) = rw e (omega arith) in
    ap (λ n. take n (x ∷ xs)) more

-- at the first `=` the name of an option ends
pub before-equals : (x : ℕ) (xs : Text) → is_equals x ≡ true → before_first is_equals (x ∷ xs) ≡ []
before-equals x xs e =
    let none : position_or_len is_equals (x ∷ xs) ≡ 0 = rw e refl in
    ap (λ n. take n (x ∷ xs)) none

-- an option's name begins with `-`, so no option stands in a word that begins otherwise
pub begins_no_option : (b : ℕ) (rest id : Text) → nat_eq b 45 ≡ false → bytes_eq (option_name (b ∷ rest)) (long_word id) ≡ false
begins_no_option b rest id other = go (is_equals b) refl
  where
    go : (e : Bool) → is_equals b ≡ e → bytes_eq (option_name (b ∷ rest)) (long_word id) ≡ false
    go true e = rw (before-equals b rest e) refl
    go false e = rw (before-cons b rest e, other) refl

-- a word whose name is that of no option is none of them
pub none_of : (options : List Text) (word : Text) → ((id : Text) → bytes_eq (option_name word) (long_word id) ≡ false) → option_of options word ≡ None
none_of [] word none = refl
none_of (own ∷ options) word none = rw (none own) (none_of options word none)

-- a word made of two bytes and more has two bytes or more
pub two : (rest : Text) (b c : ℕ) → nat_le 2 (length (b ∷ c ∷ rest)) ≡ true
two rest b c = le-leb 2 (length (b ∷ c ∷ rest)) (omega arith)

-- a word that does not begin with `-` is none of the options
not_option : (options : List Text) (word : Text) → is_option word ≡ false → option_of options word ≡ None
not_option options [] plain = none_of options [] (λ id. refl)
not_option options (b ∷ []) plain =
    elim (eqb_tells b 45) [
      | inl dash ↦ let family : ℕ → Type 0 = λ n. option_of options (n ∷ []) ≡ None in subst family (sym dash.1) (none_of options (45 ∷ []) (λ id. refl))
      | inr other ↦ none_of options (b ∷ []) (λ id. begins_no_option b [] id other.0)
    ]
not_option options (b ∷ c ∷ rest) plain =
    elim (eqb_tells b 45) [
      | inl dash ↦ let bad : true ≡ false = sym (two rest b c) ∙ both (nat_eq b 45) (nat_le 2 (length (b ∷ c ∷ rest))) dash.0 plain in absurd (let never : true ≡ false = bad in cc)
      | inr other ↦ none_of options (b ∷ c ∷ rest) (λ id. begins_no_option b (c ∷ rest) id other.0)
    ]
  where
    both : (x y : Bool) → x ≡ true → (x && y) ≡ false → y ≡ false
    both true y e f = f
    both false y e f = absurd (let never : false ≡ true = e in cc)

-- a word that does not begin with `-` is not `--`
no_dashes : (word : Text) → is_option word ≡ false → bytes_eq word (codes "--") ≡ false
no_dashes word plain = go (bytes_eq word (codes "--")) refl
  where
    go : (b : Bool) → bytes_eq word (codes "--") ≡ b → b ≡ false
    go true e = sym (dashes_are_option word e) ∙ plain
    go false e = refl

-- a word that does not begin with `-`, or is `-` itself, is a name
pub name_then : (options : List Text) (word : Text) (rest : List Text) → is_option word ≡ false → given options (word ∷ rest) ≡ with_name word (given options rest)
name_then options word rest plain = given_name options word rest (no_dashes word plain) (not_option options word plain) plain
