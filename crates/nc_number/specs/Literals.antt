-- A literal of the tape is an optional sign, digits, and optionally a point and digits, with a
-- digit in all. Here is when a text is one and what it means; Spelling.antt has the grammar.
use Rattle.std.specs.Prelude.{ℕ, ◌+◌, ◌-◌, ◌*◌, ◌^◌, Bool, false, not, ◌==◌, ◌&&◌, ◌||◌, nat_lt, if◌then◌else◌, List, [], ◌∷◌, length, drop, ℤ, IsTrue, Option, Some, None, Result, Ok, Err}
use Rattle.std.specs.Char.{is_ascii_digit}
use Rattle.std.specs.List.{list_any, list_all, position_or_len, before_first, after_first}
use Rattle.std.specs.Str.Parse.{digits_value}
pub use Rattle.nc_number.specs.Signs.{with_sign}
use Rattle.nc_number.specs.declared.fault.NumberFault.{NumberFault}
use Rattle.nc_number.specs.declared.fault.NumberFault.TheVariants.{TooManyDigits}
use Rattle.nc_number.specs.declared.literal.Literal.{Literal}

-- the byte is a point, which is 46
abbrev pub is_point : ℕ → Bool
is_point b = b == 46

-- the byte is a plus, which is 43, or a minus, which is 45
abbrev pub is_sign : ℕ → Bool
is_sign b = b == 43 || b == 45

-- the text without the sign that it may begin with
abbrev pub behind_sign : List ℕ → List ℕ
behind_sign [] = []
behind_sign (b ∷ bs) = if is_sign b then bs else b ∷ bs

-- the text begins with a minus
abbrev pub has_minus : List ℕ → Bool
has_minus [] = false
has_minus (b ∷ bs) = b == 45

-- there is a point in the text
abbrev pub has_point : List ℕ → Bool
has_point text = list_any is_point text

-- the digits before the point
abbrev pub whole_part : List ℕ → List ℕ
whole_part text = before_first is_point (behind_sign text)

-- the digits after the point, or none
abbrev pub fraction_part : List ℕ → List ℕ
fraction_part text = after_first is_point (behind_sign text)

-- each byte is a digit
abbrev pub all_digits : List ℕ → Bool
all_digits bytes = list_all is_ascii_digit bytes

-- the test that the text is a literal: digits alone but for the sign in front and one point, and
-- at least one digit
abbrev pub is_literal : List ℕ → Bool
is_literal text =
    (all_digits (whole_part text) && all_digits (fraction_part text))
    && nat_lt 0 (length (whole_part text) + length (fraction_part text))

-- the text is a literal
abbrev pub IsLiteral : List ℕ → Type 0
IsLiteral text = IsTrue (is_literal text)

-- the digits from the first one on that is not 0
abbrev pub significant : List ℕ → List ℕ
significant digits = drop (position_or_len (λ d. not (d == 48)) digits) digits

-- at most 8 whole and 6 fraction digits are allowed; the zeros that the whole part begins with do
-- not count
abbrev pub has_too_many_digits : List ℕ → Bool
has_too_many_digits text = nat_lt 8 (length (significant (whole_part text))) || nat_lt 6 (length (fraction_part text))

-- the millionths that the digits before and after a point write, of which at most 6 stand after
-- it
abbrev pub size_of_parts : List ℕ → List ℕ → ℕ
size_of_parts whole fraction =
    digits_value 10 whole * 1000000 + digits_value 10 fraction * 10 ^ (6 - length fraction)

-- the literal's value in millionths
abbrev pub literal_micro : List ℕ → ℤ
literal_micro text = with_sign (has_minus text) (size_of_parts (whole_part text) (fraction_part text))

-- what a literal means: its number and whether it has a point, or TooManyDigits
abbrev pub word_literal : List ℕ → Result Literal NumberFault
word_literal text =
    if has_too_many_digits text then Err TooManyDigits
    else Ok (record { value = literal_micro text; point = has_point text })

-- the millionths of the literal that was read, and none if it has too many digits
abbrev pub value_of_literal : Result Literal NumberFault → Option ℤ
value_of_literal (Ok literal) = Some literal.value
value_of_literal (Err fault) = None
