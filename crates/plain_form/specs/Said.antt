-- What the words of a block say by their text. src/said.rt computes it. 71 is the letter G.
use Rattle.std.specs.Prelude.{ℕ, Bool, false, ◌==◌, List, [], ◌∷◌, Option, Some, None, Result, Ok, Err, ℤ, if◌then◌else◌}
use Rattle.std.specs.List.{list_any}
use Rattle.std.specs.Ordering.{int_eq}
use Rattle.nc_number.specs.declared.literal.Literal.{Literal}
use Rattle.nc_number.specs.declared.fault.NumberFault.{NumberFault}
use Rattle.nc_number.specs.Literals.{is_literal, word_literal}
use Rattle.line_text.specs.declared.body.Word.{Word}
use Rattle.plain_form.specs.declared.said.Said.{Said}
use Rattle.plain_form.specs.declared.said.Said.TheVariants.{Nothing, Number, Calculated}

-- the number that was read; one of too many digits counts as calculated
abbrev pub said_literal : Result Literal NumberFault → Said
said_literal (Ok literal) = Number literal
said_literal (Err fault) = Calculated

-- what a word says
abbrev pub said_word : Word → Said
said_word word = if is_literal word.text then said_literal (word_literal word.text) else Calculated

-- what the word says, if it has this letter, or what was said before
abbrev pub later : ℕ → Word → Said → Said
later letter word before = if word.letter == letter then said_word word else before

-- what the last word of this letter says, or what was said before
abbrev pub said_from : Said → ℕ → List Word → Said
said_from before letter [] = before
said_from before letter (word ∷ words) = said_from (later letter word before) letter words

-- what the last word of this letter says
abbrev pub last_said : ℕ → List Word → Said
last_said letter words = said_from Nothing letter words

-- the number is that one, in millionths
abbrev pub is_number : ℤ → Said → Bool
is_number code Nothing = false
is_number code (Number literal) = int_eq literal.value code
is_number code Calculated = false

-- the word is this G code, in millionths
abbrev pub is_code_word : ℤ → Word → Bool
is_code_word code word = if word.letter == 71 then is_number code (said_word word) else false

-- a word is this G code
abbrev pub has_code : ℤ → List Word → Bool
has_code code words = list_any (is_code_word code) words

-- the letter is one of these
abbrev pub is_one_of : List ℕ → ℕ → Bool
is_one_of letters letter = list_any (λ own. own == letter) letters

-- the letter of the first word that is none of these
abbrev pub unexpected : List ℕ → List Word → Option ℕ
unexpected letters [] = None
unexpected letters (word ∷ words) = if is_one_of letters word.letter then unexpected letters words else Some word.letter
