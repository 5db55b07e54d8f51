-- The words of a block as they stand on the tape, of which only those are read that its control
-- hangs on.
use Rattle.std.specs.Prelude.{ℕ, Bool, not, ◌&&◌, List, Option, Some, None, ℤ, filter, if◌then◌else◌}
use Rattle.std.specs.List.{list_any, filter_map}
use Rattle.nc_number.specs.Arithmetic.{whole_of}
use Rattle.nc_number.specs.Literals.{is_literal, has_too_many_digits, value_of_literal, word_literal}
use Rattle.code_tables.specs.Codes.{last_of}
use Rattle.line_text.specs.declared.body.Word.{Word}
use Rattle.block_words.specs.Words.{is_one_of}
use Rattle.block_words.specs.Codes.{natural_number}

-- The words of these letters, in their order.
abbrev pub words_of : List ℕ → List Word → List Word
words_of letters words = filter (λ word. is_one_of letters word.letter) words

-- The block has a word of one of these letters.
abbrev pub has : List ℕ → List Word → Bool
has letters words = list_any (λ word. is_one_of letters word.letter) words

-- The millionths of the number that a word writes out, with not too many digits; an expression is
-- not looked into.
abbrev pub written_micro : Word → Option ℤ
written_micro word = if is_literal word.text then value_of_literal (word_literal word.text) else None

-- The whole number of so many millionths, if it is whole and not below 0.
abbrev pub whole_of_written : Option ℤ → Option ℕ
whole_of_written None = None
whole_of_written (Some micro) = natural_number (whole_of micro)

-- The whole number that a word writes out, if it is not below 0.
abbrev pub whole_of_word : Word → Option ℕ
whole_of_word word = whole_of_written (written_micro word)

-- The whole numbers that words of these letters write out; a word that writes none is left out.
abbrev pub numbers_of : List ℕ → List Word → List ℕ
numbers_of letters words = filter_map whole_of_word (words_of letters words)

-- The number of a word, if there is one.
abbrev pub number_of_last : Option Word → Option ℕ
number_of_last None = None
number_of_last (Some word) = whole_of_word word

-- The number of the last word of these letters: it is the one in force.
abbrev pub last_number : List ℕ → List Word → Option ℕ
last_number letters words = number_of_last (last_of (words_of letters words))

-- A word of one of these letters is computed.
abbrev pub has_computed : List ℕ → List Word → Bool
has_computed letters words = list_any (λ word. not (is_literal word.text)) (words_of letters words)

-- A word of one of these letters has too many digits.
abbrev pub has_long : List ℕ → List Word → Bool
has_long letters words = list_any (λ word. is_literal word.text && has_too_many_digits word.text) (words_of letters words)
