-- The grammar of a literal: a sign or none, digits, and a point with digits or none, with a digit
-- in all. Only the laws of src/laws.rt on literals and on printing need it; readers use
-- Literals.antt.
use Rattle.std.specs.Prelude.{◌≡◌, ℕ, ◌+◌, ◌<◌, Bool, true, false, List, [], ◌∷◌, ◌++◌, length, Option, Some, None, is_some}
use Rattle.nc_number.specs.Literals.{IsLiteral, all_digits, has_minus, has_point, whole_part, fraction_part}

-- what stands before the digits: nothing, a plus or a minus
pub data Sign : Type 0 where
  -- no sign
  Bare : Sign
  -- a plus
  Plus : Sign
  -- a minus
  Minus : Sign

-- the bytes of a sign: 43 is the plus and 45 the minus
abbrev pub sign_bytes : Sign → List ℕ
sign_bytes Bare = []
sign_bytes Plus = 43 ∷ []
sign_bytes Minus = 45 ∷ []

-- the sign is a minus
abbrev pub is_minus : Sign → Bool
is_minus Bare = false
is_minus Plus = false
is_minus Minus = true

-- a point and the digits after it, where there is a point
abbrev pub point_bytes : Option (List ℕ) → List ℕ
point_bytes None = []
point_bytes (Some fraction) = 46 ∷ fraction

-- the digits after the point
abbrev pub digits_behind : Option (List ℕ) → List ℕ
digits_behind None = []
digits_behind (Some fraction) = fraction

-- the text is a sign, whole digits, and a point with digits or none, with a digit in all
pub record IsWritten (text : List ℕ) (sign : Sign) (whole : List ℕ) (fraction : Option (List ℕ)) : Type 0 where
  -- the text is these parts, one after the other
  pub bytes : text ≡ sign_bytes sign ++ (whole ++ point_bytes fraction)
  -- before the point stand digits alone
  pub whole_digits : all_digits whole ≡ true
  -- after the point stand digits alone
  pub fraction_digits : all_digits (digits_behind fraction) ≡ true
  -- there is a digit in all
  pub some_digit : 0 < length whole + length (digits_behind fraction)

-- the parts of a text are those of a spelling
pub record HasParts (text : List ℕ) (sign : Sign) (whole : List ℕ) (fraction : Option (List ℕ)) : Type 0 where
  -- the text is a literal
  pub literal : IsLiteral text
  -- the text has a minus exactly if the spelling has one
  pub minus_is : has_minus text ≡ is_minus sign
  -- the whole part of the text is that of the spelling
  pub whole_is : whole_part text ≡ whole
  -- the fraction of the text is that of the spelling
  pub fraction_is : fraction_part text ≡ digits_behind fraction
  -- the text has a point exactly if the spelling has one
  pub point_is : has_point text ≡ is_some fraction
