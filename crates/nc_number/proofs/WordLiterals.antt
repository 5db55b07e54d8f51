-- What a literal with few enough digits means. For the proof of `parse_word` (src/literal.rt) and
-- the laws on literals and printing.
use Rattle.std.proofs.Common.{◌≡◌, ℕ, ◌≤◌, true, false, List, length, refl, Ok}
use Rattle.std.proofs.lemmas.Bool.{and_parts, or_from, le-ltb}
use Rattle.nc_number.specs.Literals.{IsLiteral, all_digits, whole_part, fraction_part, significant, has_minus, has_point, has_too_many_digits, size_of_parts, with_sign, word_literal}
use Rattle.nc_number.proofs.DecimalDigits.{value-significant}

-- what stands before the point of a literal are digits
pub whole_digits : (text : List ℕ) → IsLiteral text → all_digits (whole_part text) ≡ true
whole_digits text literal = (and_parts _ _ (and_parts _ _ literal).0).0

-- what stands after the point of a literal are digits
pub fraction_digits : (text : List ℕ) → IsLiteral text → all_digits (fraction_part text) ≡ true
fraction_digits text literal = (and_parts _ _ (and_parts _ _ literal).0).1

-- a text with at most 8 whole digits, the zeros at the front not counted, and at most 6 of the
-- fraction has not too many
pub few_digits : (text : List ℕ) → length (significant (whole_part text)) ≤ 8 → length (fraction_part text) ≤ 6 → has_too_many_digits text ≡ false
few_digits text whole fraction = or_from _ _ (le-ltb _ _ whole) (le-ltb _ _ fraction)

-- a literal with at most 8 whole digits, the zeros at the front not counted, and at most 6 of the
-- fraction means what its digits write, with its sign
pub word_literal-few : (text : List ℕ) → length (significant (whole_part text)) ≤ 8 → length (fraction_part text) ≤ 6
    → Ok (record { value = with_sign (has_minus text) (size_of_parts (significant (whole_part text)) (fraction_part text)); point = has_point text }) ≡ word_literal text
word_literal-few text whole fraction =
    rw (few_digits text whole fraction, value-significant (whole_part text)) refl
