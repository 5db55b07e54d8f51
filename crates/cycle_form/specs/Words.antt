-- The words that a form may have, read as literals, lengths and codes. src/words.rt reads them;
-- Contour, Head, Forms and Walk cite them. A letter is its byte: 71 G, 88 X, 90 Z. The place of a
-- word is its index in its block, from 0.
use Rattle.std.specs.Prelude.{ℕ, Bool, false, ◌==◌, List, length, Option, Some, None, Result, Ok, Err, ℤ, pos, slice_get, if◌then◌else◌}
use Rattle.std.specs.Ordering.{int_eq}
use Rattle.nc_number.specs.declared.literal.Literal.{Literal}
use Rattle.nc_number.specs.declared.fault.NumberFault.{NumberFault}
use Rattle.nc_number.specs.Literals.{is_literal, word_literal}
use Rattle.nc_number.specs.Arithmetic.{whole_of}
use Rattle.nc_number.specs.Conversions.{thousandths_of}
use Rattle.nc_number.specs.Options.{◌>>=◌}
use Rattle.line_text.specs.declared.body.Word.{Word}
use Rattle.nc_number.specs.declared.point.Point.{Point}

-- The literal that was read, if it has no more digits than are allowed.
abbrev pub value_of : Result Literal NumberFault → Option Literal
value_of (Ok literal) = Some literal
value_of (Err fault) = None

-- The literal of a word with this letter, if its text is one and has no more digits than are
-- allowed.
abbrev pub literal_of : ℕ → Option Word → Option Literal
literal_of letter None = None
literal_of letter (Some word) =
    if word.letter == letter then (if is_literal word.text then value_of (word_literal word.text) else None) else None

-- The literal of the word at place i, if it has this letter.
unfoldable pub literal_at : List Word → ℕ → ℕ → Option Literal
literal_at words i letter = literal_of letter (slice_get words i)

-- The length in 0.001 mm that the word at place i writes under this letter. Without a point it
-- counts 0.001 mm.
unfoldable pub length_at : List Word → ℕ → ℕ → Option ℤ
length_at words i letter = do
  literal ← literal_at words i letter
  Some (thousandths_of literal)

-- Whether the whole number, if there is one, is this code.
abbrev pub is_whole : ℤ → Option ℤ → Bool
is_whole code None = false
is_whole code (Some n) = int_eq n code

-- Whether the literal is this G code, by its value: 1, 1. and 01 are the same.
abbrev pub is_code : ℤ → Option Literal → Bool
is_code code None = false
is_code code (Some literal) = is_whole code (whole_of literal.value)

-- The point of G00 X Z, in this order and with no other word.
unfoldable pub start_of : List Word → Option Point
start_of words =
    if length words == 3
    then (if is_code (pos 0) (literal_at words 0 71) then (do
      x ← length_at words 1 88
      z ← length_at words 2 90
      Some (record { x = x; z = z })) else None)
    else None
