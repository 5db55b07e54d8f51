-- Words that read in full say the same to both readings. For Accepts, AmongLetters, TableRows and
-- Widened.
use Rattle.std.proofs.Common.{◌≡◌, ℕ, suc, Bool, true, false, cond, not, ◌&&◌, List, [], ◌∷◌, length, Option, Some, None, Result, Ok, Err, ℤ, refl, sym, ◌∙◌, ap, subst}
use Rattle.std.specs.List.{list_any, filter_map}
use Rattle.nc_number.specs.declared.fault.NumberFault.TheVariants.{TooManyDigits}
use Rattle.nc_number.specs.Literals.{is_literal, has_too_many_digits, literal_micro, has_point, has_minus, behind_sign}
use Rattle.line_text.specs.declared.body.Word.{Word}
use Rattle.macro_expr.specs.declared.tree.ExprFault.{ExprFault}
use Rattle.macro_expr.specs.Tree.{Tree}
use Rattle.macro_expr.specs.Answers.{expression_of}
use Rattle.code_tables.specs.declared.system.System.{System}
use Rattle.code_tables.specs.Codes.{last_of}
use Rattle.block_words.specs.declared.word.FlowWord.{FlowWord}
use Rattle.block_words.specs.declared.word.WordValue.{WordValue}
use Rattle.block_words.specs.declared.word.WordValue.TheVariants.{Fixed, Computed}
use Rattle.block_words.specs.Words as read
use Rattle.block_words.specs.Codes.{natural_number, row_of_number, row_of_word as row_of_read}
use Rattle.block_forms.specs.Forms.{word_of, word_at, fixed_value, computed_value, all_words, word_and_rest}
use Rattle.open_forms.specs.Words.{words_of, has, written_micro, whole_of_written, whole_of_word, numbers_of, number_of_last, last_number, has_computed, has_long}
use Rattle.open_forms.specs.Refusals.{row_of_word}

-- The millionths that the value of a word writes out, if it is a literal.
abbrev pub micro_of : WordValue → Option ℤ
micro_of (Fixed literal) = Some literal.value
micro_of (Computed minus tree) = None

-- A word of the text and what it says.
pub record IsSaid (text : Word) (word : FlowWord) : Type 0 where
  -- Both have one letter.
  pub letter : word.letter ≡ text.letter
  -- Both write out the same number, or none.
  pub written : written_micro text ≡ micro_of word.value
  -- Both are computed, or neither is.
  pub computed : not (is_literal text.text) ≡ read.is_computed word.value
  -- The text has not too many digits.
  pub short : (is_literal text.text && has_too_many_digits text.text) ≡ false

-- If a word reads, it is said by its text.
said : (text : Word) (word : FlowWord) → word_of text ≡ Ok word → IsSaid text word
said text word reads = go (is_literal text.text) (has_too_many_digits text.text) (expression_of (behind_sign text.text)) refl refl reads
  where
    go : (literal long : Bool) (tree : Result Tree ExprFault) → is_literal text.text ≡ literal → has_too_many_digits text.text ≡ long
        → word_at text.letter (cond literal
        (fixed_value (cond long (Err TooManyDigits) (Ok (record { value = literal_micro text.text; point = has_point text.text }))))
        (computed_value (has_minus text.text) tree)) ≡ Ok word → IsSaid text word
    go true true tree is long e = absurd (cc)
    go true false tree is long e =
        let own : FlowWord = record { letter = text.letter; value = Fixed (record { value = literal_micro text.text; point = has_point text.text }) } in
        let same : own ≡ word = cc in
        subst (IsSaid text) same (record { letter = refl; written = rw (is, long) refl; computed = rw is refl; short = rw (is, long) refl })
    go false long (Ok tree) is e_long e =
        let own : FlowWord = record { letter = text.letter; value = Computed (has_minus text.text) tree } in
        let same : own ≡ word = cc in
        subst (IsSaid text) same (record { letter = refl; written = rw is refl; computed = rw is refl; short = rw is refl })
    go false long (Err fault) is e_long e = absurd (cc)

-- Each word of the text with what it says, in order.
pub data AreSaid : List Word → List FlowWord → Type 0 where
  -- No text says no word.
  none : AreSaid [] []
  -- One text more says one word more.
  one_more : (text : Word) (word : FlowWord) (texts : List Word) (words : List FlowWord) → IsSaid text word → AreSaid texts words
      → AreSaid (text ∷ texts) (word ∷ words)

-- If all words of a text read, they are said by it.
pub are_said : (texts : List Word) (words : List FlowWord) → all_words texts ≡ Ok words → AreSaid texts words
are_said [] words e = let same : [] ≡ words = cc in subst (AreSaid []) same none
are_said (text ∷ texts) words e = go (word_of text) (all_words texts) refl refl (λ more reads. are_said texts more reads) e
  where
    go : (first : Result FlowWord ℕ) (others : Result (List FlowWord) ℕ) → word_of text ≡ first → all_words texts ≡ others
        → ((more : List FlowWord) → all_words texts ≡ Ok more → AreSaid texts more)
        → word_and_rest first others ≡ Ok words → AreSaid (text ∷ texts) words
    go (Ok word) (Ok more) at rest further e =
        let same : word ∷ more ≡ words = cc in
        subst (AreSaid (text ∷ texts)) same (one_more text word texts more (said text word at) (further more rest))
    go (Ok word) (Err n) at rest further e = absurd (cc)
    go (Err n) (Ok more) at rest further e = absurd (cc)
    go (Err n) (Err m) at rest further e = absurd (cc)

-- A word and its text have the same whole number.
pub same_number : (text : Word) (word : FlowWord) → IsSaid text word → whole_of_word text ≡ natural_number (read.whole_value word.value)
same_number text word is = ap whole_of_written is.written ∙ go word.value
  where
    go : (value : WordValue) → whole_of_written (micro_of value) ≡ natural_number (read.whole_value value)
    go (Fixed literal) = refl
    go (Computed minus tree) = refl

-- A G word and its text have the same row.
pub same_row : (system : System) (text : Word) (word : FlowWord) → IsSaid text word → row_of_word system text ≡ row_of_read system word
same_row system text word is = ap (row_of_number system) (same_number text word is)

-- The words of some letters are said by the texts of these letters.
pub same_words_of : (letters : List ℕ) (texts : List Word) (words : List FlowWord) → AreSaid texts words
    → AreSaid (words_of letters texts) (read.words_of letters words)
same_words_of letters _ _ none = none
same_words_of letters _ _ (one_more text word texts words is others) =
    subst
    (λ l. AreSaid (words_of letters (text ∷ texts)) (cond (read.is_one_of letters l) (word ∷ read.words_of letters words) (read.words_of letters words)))
    (sym is.letter) (go (read.is_one_of letters text.letter) (same_words_of letters texts words others))
  where
    go : (b : Bool) → AreSaid (words_of letters texts) (read.words_of letters words)
        → AreSaid (cond b (text ∷ words_of letters texts) (words_of letters texts)) (cond b (word ∷ read.words_of letters words) (read.words_of letters words))
    go true rest = one_more text word _ _ is rest
    go false rest = rest

-- There is a word of some letters exactly if there is such a text.
pub same_has : (letters : List ℕ) (texts : List Word) (words : List FlowWord) → AreSaid texts words → has letters texts ≡ read.has letters words
same_has letters _ _ none = refl
same_has letters _ _ (one_more text word texts words is others) = rw (is.letter, same_has letters texts words others) refl

-- There are as many words as texts.
same_length : (texts : List Word) (words : List FlowWord) → AreSaid texts words → length texts ≡ length words
same_length _ _ none = refl
same_length _ _ (one_more text word texts words is others) = ap suc (same_length texts words others)

-- There are as many words of some letters as such texts.
pub same_count : (letters : List ℕ) (texts : List Word) (words : List FlowWord) → AreSaid texts words
    → length (words_of letters texts) ≡ length (read.words_of letters words)
same_count letters texts words are = same_length _ _ (same_words_of letters texts words are)

-- A word is computed exactly if a text is.
any_computed : (texts : List Word) (words : List FlowWord) → AreSaid texts words
    → list_any (λ (t : Word). not (is_literal t.text)) texts ≡ list_any (λ (w : FlowWord). read.is_computed w.value) words
any_computed _ _ none = refl
any_computed _ _ (one_more text word texts words is others) = rw (is.computed, any_computed texts words others) refl

-- A word of some letters is computed exactly if a text of these letters is.
pub same_computed : (letters : List ℕ) (texts : List Word) (words : List FlowWord) → AreSaid texts words
    → has_computed letters texts ≡ read.has_computed letters words
same_computed letters texts words are = any_computed _ _ (same_words_of letters texts words are)

-- No text of words that read has too many digits.
any_long : (texts : List Word) (words : List FlowWord) → AreSaid texts words
    → list_any (λ (t : Word). is_literal t.text && has_too_many_digits t.text) texts ≡ false
any_long _ _ none = refl
any_long _ _ (one_more text word texts words is others) = rw (is.short, any_long texts words others) refl

-- No text of some letters has too many digits, if all words read.
pub none_long : (letters : List ℕ) (texts : List Word) (words : List FlowWord) → AreSaid texts words → has_long letters texts ≡ false
none_long letters texts words are = any_long _ _ (same_words_of letters texts words are)

-- The words write out the same numbers as their texts.
all_numbers : (texts : List Word) (words : List FlowWord) → AreSaid texts words
    → filter_map whole_of_word texts ≡ filter_map (λ (w : FlowWord). natural_number (read.whole_value w.value)) words
all_numbers _ _ none = refl
all_numbers _ _ (one_more text word texts words is others) =
    rw (same_number text word is, all_numbers texts words others) refl

-- The words of some letters write out the same numbers as their texts.
pub same_numbers : (letters : List ℕ) (texts : List Word) (words : List FlowWord) → AreSaid texts words
    → numbers_of letters texts ≡ filter_map (λ (w : FlowWord). natural_number (read.whole_value w.value)) (read.words_of letters words)
same_numbers letters texts words are = all_numbers _ _ (same_words_of letters texts words are)

-- The last of these words and of their texts say the same number, with one more in front.
last_behind : (text : Word) (word : FlowWord) → IsSaid text word → (texts : List Word) (words : List FlowWord) → AreSaid texts words
    → number_of_last (last_of (text ∷ texts)) ≡ natural_number (read.whole_of_last (read.value_of_last (last_of (word ∷ words))))
last_behind text word is _ _ none = same_number text word is
last_behind text word is _ _ (one_more t w texts words at others) = last_behind t w at texts words others

-- The last word and the last text say the same number.
last_number_of : (texts : List Word) (words : List FlowWord) → AreSaid texts words
    → number_of_last (last_of texts) ≡ natural_number (read.whole_of_last (read.value_of_last (last_of words)))
last_number_of _ _ none = refl
last_number_of _ _ (one_more text word texts words is others) = last_behind text word is texts words others

-- The last word of some letters and the last such text say the same number.
pub same_last : (letters : List ℕ) (texts : List Word) (words : List FlowWord) → AreSaid texts words
    → last_number letters texts ≡ natural_number (read.last_whole letters words)
same_last letters texts words are = last_number_of _ _ (same_words_of letters texts words are)
