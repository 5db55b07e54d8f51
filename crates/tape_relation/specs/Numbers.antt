-- The numbers of a line of a tape: literals, those of too many digits, and the ranges of sequence
-- numbers and O numbers.
-- Bytes: 43 is `+`, 45 `-`, 46 the point, 48 the digit 0.
-- Value, LineGrammar, LineAlone and Programs cite it; no other crate does. line_text (specs/Said)
-- has both ranges too, and nc_number (specs/Literals) how many digits are too many.
use Rattle.std.specs.Prelude.{◌≡◌, ℕ, ◌+◌, ◌<◌, ◌≤◌, ◌==◌, ◌⊎◌, true, false, List, [], ◌∷◌, ◌++◌, length}
use Rattle.std.specs.Char.{is_ascii_digit}
use Rattle.std.specs.List.{list_all}
use Rattle.std.specs.Str.Parse.{digits_value}

-- the text is a plus, a minus or nothing
abbrev pub IsSign : List ℕ → Type 0
IsSign text = (text ≡ []) ⊎ ((text ≡ 43 ∷ []) ⊎ (text ≡ 45 ∷ []))

-- A literal by its parts: a sign or none, whole digits, and a point and fraction digits or none,
-- with a digit in all.
pub record IsWritten (text sign whole fraction : List ℕ) : Type 0 where
  -- the sign is a plus, a minus or nothing
  pub sign_is : IsSign sign
  -- what stands before the point are digits
  pub whole_are : list_all is_ascii_digit whole ≡ true
  -- what stands after the point are digits
  pub fraction_are : list_all is_ascii_digit fraction ≡ true
  -- there is at least one digit
  pub some : 0 < length whole + length fraction
  -- the text is these parts, with a point or without
  pub text_is : ((text ≡ sign ++ whole) × (fraction ≡ [])) ⊎ (text ≡ sign ++ (whole ++ 46 ∷ fraction))

-- a literal, whatever its parts
abbrev pub IsLiteral : List ℕ → Type 0
IsLiteral text = (sign : List ℕ) × (whole : List ℕ) × (fraction : List ℕ) × IsWritten text sign whole fraction

-- digits are too many: 8 or more whole digits follow one that is not 0, or there are more than 6
-- after the point
abbrev pub HasTooMany : List ℕ → List ℕ → Type 0
HasTooMany whole fraction = ((front : List ℕ) × (digit : ℕ) × (rest : List ℕ) × (whole ≡ front ++ digit ∷ rest)
    × ((digit == 48) ≡ false) × (8 ≤ length rest)) ⊎ (6 < length fraction)

-- a literal writes this whole number: its fraction digits are zeros, and only 0 has a minus
pub record Writes (text : List ℕ) (n : ℕ) : Type 0 where
  -- its sign, or nothing
  pub sign : List ℕ
  -- its digits before the point
  pub whole : List ℕ
  -- its digits after the point
  pub fraction : List ℕ
  -- these are the literal's parts
  pub written : IsWritten text sign whole fraction
  -- its digits are not too many
  pub few : HasTooMany whole fraction → ⊥
  -- the whole digits write the number
  pub value : n ≡ digits_value 10 whole
  -- the fraction digits are zeros
  pub zeros : list_all (λ digit. digit == 48) fraction ≡ true
  -- with a minus the number is 0
  pub minus : sign ≡ 45 ∷ [] → n ≡ 0

-- the literal writes this sequence number, which is from 0 to 99,999
abbrev pub IsSequenceNumber : List ℕ → ℕ → Type 0
IsSequenceNumber text n = Writes text n × (n ≤ 99999)

-- the literal writes this O number, which is from 1 to 9,999
abbrev pub IsProgramNumber : List ℕ → ℕ → Type 0
IsProgramNumber text n = Writes text n × (1 ≤ n) × (n ≤ 9999)

-- the text begins with a literal of too many digits
abbrev pub BeginsLong : List ℕ → Type 0
BeginsLong text = (number : List ℕ) × (rest : List ℕ) × (text ≡ number ++ rest)
    × ((sign : List ℕ) × (whole : List ℕ) × (fraction : List ℕ) × IsWritten number sign whole fraction
    × HasTooMany whole fraction)
