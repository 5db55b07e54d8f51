-- The words of a block, looked at by their letters.
use Rattle.std.specs.Prelude.{ℕ, Bool, true, false, ◌==◌, List, Option, Some, None, ℤ, filter}
use Rattle.std.specs.List.{list_any}
use Rattle.nc_number.specs.Arithmetic.{whole_of}
use Rattle.code_tables.specs.Codes.{last_of}
use Rattle.block_words.specs.declared.word.FlowWord.{FlowWord}
use Rattle.block_words.specs.declared.word.WordValue.{WordValue}
use Rattle.block_words.specs.declared.word.WordValue.TheVariants.{Fixed, Computed}

-- The letter is one of these.
abbrev pub is_one_of : List ℕ → ℕ → Bool
is_one_of letters letter = list_any (λ own. own == letter) letters

-- The words of these letters, in their order.
abbrev pub words_of : List ℕ → List FlowWord → List FlowWord
words_of letters words = filter (λ word. is_one_of letters word.letter) words

-- The block has a word of one of these letters.
abbrev pub has : List ℕ → List FlowWord → Bool
has letters words = list_any (λ word. is_one_of letters word.letter) words

-- The value is a variable or an expression.
abbrev pub is_computed : WordValue → Bool
is_computed (Fixed literal) = false
is_computed (Computed minus tree) = true

-- A word of one of these letters is calculated.
abbrev pub has_computed : List ℕ → List FlowWord → Bool
has_computed letters words = list_any (λ word. is_computed word.value) (words_of letters words)

-- The whole number that the value is, if it is written out; it may have a point, with a fraction of
-- 0.
abbrev pub whole_value : WordValue → Option ℤ
whole_value (Fixed literal) = whole_of literal.value
whole_value (Computed minus tree) = None

-- The value of the word, if there is a word.
abbrev pub value_of_last : Option FlowWord → Option WordValue
value_of_last None = None
value_of_last (Some word) = Some word.value

-- What the last word of these letters says: it is the one in force.
abbrev pub last_value : List ℕ → List FlowWord → Option WordValue
last_value letters words = value_of_last (last_of (words_of letters words))

-- The whole number that the value writes out, if there is a value and it is one.
abbrev pub whole_of_last : Option WordValue → Option ℤ
whole_of_last None = None
whole_of_last (Some value) = whole_value value

-- The whole number that the last word of these letters writes out, if it writes one.
abbrev pub last_whole : List ℕ → List FlowWord → Option ℤ
last_whole letters words = whole_of_last (last_value letters words)
