-- What may stand after an address letter of a tape's block, and which numbers are in range.
-- Src/values.rt computes it.
use Rattle.std.specs.Prelude.{ℕ, ◌+◌, Bool, false, ◌&&◌, ◌||◌, ◌==◌, nat_le, List, [], ◌∷◌, length, take, drop, Option, Some, None, Result, Ok, Err, ℤ, pos, negsuc, if◌then◌else◌}
use Rattle.std.specs.Char.{is_ascii_digit}
use Rattle.std.specs.List.{list_all, prefix_len}
use Rattle.nc_number.specs.declared.literal.Literal.{Literal}
use Rattle.nc_number.specs.declared.fault.NumberFault.{NumberFault}
use Rattle.nc_number.specs.Arithmetic.{whole_of}
use Rattle.nc_number.specs.Literals.{is_literal, is_sign, behind_sign, word_literal, has_too_many_digits}
use Rattle.line_text.specs.Pieces.{depth_behind}

-- whether all of so many open brackets are closed at the very end of a text, and not before
abbrev pub closes : List ℕ → ℕ → Bool
closes [] depth = false
closes (b ∷ bs) depth = if b == 93 && depth == 1 then length bs == 0 else closes bs (depth_behind depth b)

-- whether a text is what may follow `#`: digits, or an expression in brackets
abbrev pub is_variable : List ℕ → Bool
is_variable [] = false
is_variable (b ∷ bs) = if b == 91 then closes bs 1 else list_all is_ascii_digit (b ∷ bs)

-- whether a text is a variable, or an expression in brackets
abbrev pub is_reference : List ℕ → Bool
is_reference [] = false
is_reference (b ∷ bs) = if b == 35 then is_variable bs else b == 91 && closes bs 1

-- whether a text is a literal, or a variable or bracketed expression with or without a sign
abbrev pub is_value : List ℕ → Bool
is_value text = is_literal text || is_reference (behind_sign text)

-- the number, if there is one and it is from low to high
abbrev pub in_range : ℕ → ℕ → Option ℤ → Option ℕ
in_range low high None = None
in_range low high (Some (pos n)) = if nat_le low n && nat_le n high then Some n else None
in_range low high (Some (negsuc n)) = None

-- the whole number of a literal that was read, if it is in the range
abbrev pub range_of : ℕ → ℕ → Result Literal NumberFault → Option ℕ
range_of low high (Ok literal) = in_range low high (whole_of literal.value)
range_of low high (Err fault) = None

-- the whole number that a literal writes, if it is in the range
unfoldable pub number_in : ℕ → ℕ → List ℕ → Option ℕ
number_in low high text = range_of low high (word_literal text)

-- how many digits the text begins with
abbrev pub digits_len : List ℕ → ℕ
digits_len text = prefix_len is_ascii_digit text

-- the length of a point (46) and the digits after it, or 0
abbrev pub fraction_len : List ℕ → ℕ
fraction_len [] = 0
fraction_len (b ∷ bs) = if b == 46 then 1 + digits_len bs else 0

-- 1 if a text begins with a plus or a minus, else 0
abbrev pub sign_len : List ℕ → ℕ
sign_len [] = 0
sign_len (b ∷ bs) = if is_sign b then 1 else 0

-- the length of digits, and of a point and digits after them
abbrev pub unsigned_len : List ℕ → ℕ
unsigned_len text = digits_len text + fraction_len (drop (digits_len text) text)

-- the longest beginning of a text that is a sign or none, digits, and a point with digits or none
abbrev pub number_front : List ℕ → List ℕ
number_front text = take (sign_len text + unsigned_len (drop (sign_len text) text)) text

-- whether a text begins with a literal of too many digits
abbrev pub has_long_front : List ℕ → Bool
has_long_front text = is_literal (number_front text) && has_too_many_digits (number_front text)
