-- Why the words of a block are refused. src/causes.rt computes it. 71 is the letter G.
use Rattle.std.specs.Prelude.{ℕ, Bool, true, false, ◌||◌, ◌==◌, List, [], ◌∷◌, Option, Some, None, ℤ, if◌then◌else◌}
use Rattle.std.specs.Int.{is_negative}
use Rattle.std.specs.List.{list_any, list_all}
use Rattle.std.specs.Ordering.{int_eq}
use Rattle.line_text.specs.declared.body.Word.{Word}
use Rattle.plain_form.specs.declared.said.Said.{Said}
use Rattle.plain_form.specs.declared.said.Said.TheVariants.{Nothing, Number, Calculated}
use Rattle.plain_form.specs.declared.cause.PlainCause.{PlainCause}
use Rattle.plain_form.specs.declared.cause.PlainCause.TheVariants as cause
use Rattle.plain_form.specs.Said.{said_word, last_said, unexpected}

-- the first of two causes that there is
abbrev pub first_cause : Option PlainCause → Option PlainCause → Option PlainCause
first_cause (Some one) other = Some one
first_cause None other = other

-- the number is calculated
abbrev pub said_calculated : Said → Bool
said_calculated Nothing = false
said_calculated (Number literal) = false
said_calculated Calculated = true

abbrev pub is_calculated : ℕ → List Word → Bool
is_calculated letter words = said_calculated (last_said letter words)

-- the first of these letters whose word is calculated
abbrev pub calculated_in : List ℕ → List Word → Option PlainCause
calculated_in [] words = None
calculated_in (letter ∷ letters) words =
    if is_calculated letter words then Some (cause.Calculated letter) else calculated_in letters words

-- the number is no count
abbrev pub said_no_count : Said → Bool
said_no_count Nothing = false
said_no_count (Number literal) = literal.point || is_negative literal.value
said_no_count Calculated = false

abbrev pub is_no_count : ℕ → List Word → Bool
is_no_count letter words = said_no_count (last_said letter words)

-- the first of these letters whose word is no count
abbrev pub no_count_in : List ℕ → List Word → Option PlainCause
no_count_in [] words = None
no_count_in (letter ∷ letters) words =
    if is_no_count letter words then Some (cause.Range letter) else no_count_in letters words

-- that this letter is missing
abbrev pub missing_of : Bool → ℕ → Option PlainCause
missing_of there letter = if there then None else Some (cause.Missing letter)

-- the number is one of these, in millionths
abbrev pub said_one_of : List ℤ → Said → Bool
said_one_of codes Nothing = false
said_one_of codes (Number literal) = list_any (λ own. int_eq own literal.value) codes
said_one_of codes Calculated = false

-- a word is no G code, or one of these
abbrev pub is_taken : List ℤ → Word → Bool
is_taken codes word = if word.letter == 71 then said_one_of codes (said_word word) else true

-- a letter that is not asked for, or a code
abbrev pub unexpected_as : Option ℕ → List ℤ → List Word → Option PlainCause
unexpected_as (Some letter) codes words = Some (cause.Unexpected letter)
unexpected_as None codes words = if list_all (is_taken codes) words then None else Some (cause.Unexpected 71)

-- the first letter that is none of these, or G if there is a code that is none of these
abbrev pub unexpected_in : List ℕ → List ℤ → List Word → Option PlainCause
unexpected_in letters codes words = unexpected_as (unexpected letters words) codes words
