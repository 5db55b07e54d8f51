-- What is printed reads back as the same number: values with up to six decimals, lengths with
-- three. For the laws `a_printed_value_reads_back` and `a_printed_length_reads_back` of
-- src/laws.rt.
use Rattle.std.proofs.Common.{◌≡◌, ◌==◌, ◌<◌, ◌≤◌, ◌-◌, ◌*◌, ◌/◌, ◌%◌, ◌^◌, ℕ, ℤ, pos, negsuc, ◌*ℤ◌, Bool, true, false, cond, List, [], ◌∷◌, append_assoc, length, Option, Some, None, is_some, Ok, refl, ap, sym, ◌∙◌, arith}
use Rattle.std.specs.Prelude.{unsigned_abs, decimal}
use Rattle.std.specs.Int.{is_negative}
use Rattle.std.specs.Fmt.{sign_text}
use Rattle.std.specs.Str.Parse.{digits_value}
use Rattle.std.proofs.lemmas.Fmt.{digits_decimal, digits_value-decimal, decimal_nonempty, length-decimal-le}
use Rattle.std.proofs.lemmas.Bool.{eqb-true}
use Rattle.nc_number.specs.Literals.{IsLiteral, all_digits, significant, whole_part, fraction_part, has_minus, has_point, size_of_parts, with_sign, word_literal}
use Rattle.nc_number.specs.Printed.{last_digits, without_trailing_zeros, fraction_text, value_text, length_text}
use Rattle.nc_number.specs.Range.{InRange}
use Rattle.nc_number.specs.Spelling.{Sign, Bare, Minus, sign_bytes, is_minus, point_bytes, digits_behind, IsWritten, HasParts}
use Rattle.nc_number.proofs.DecimalDigits.{digits_model, length-significant-le}
use Rattle.nc_number.proofs.WordLiterals.{few_digits}
use Rattle.nc_number.proofs.LastDigits.{length-last, all_digits-last, value-last, length-trim-le, all_digits-trim, value-trim}
use Rattle.nc_number.proofs.Spellings.{parts_of_written}
use Rattle.std.proofs.Math.IntN.{pos-*ℤ-pos, negsuc-*ℤ-pos}
use Rattle.nc_number.proofs.NearestQuotient.{signed_size, negative_pos}

-- the sign that is printed: a minus below 0, else none
abbrev pub printed_sign : Bool → Sign
printed_sign minus = cond minus Minus Bare

-- the bytes that are printed for a sign are those of the grammar
printed_sign_bytes : (minus : Bool) → sign_text minus ≡ sign_bytes (printed_sign minus)
printed_sign_bytes true = refl
printed_sign_bytes false = refl

-- a minus is printed exactly below 0
printed_minus : (minus : Bool) → is_minus (printed_sign minus) ≡ minus
printed_minus true = refl
printed_minus false = refl

-- a literal with these parts, where the digits are few enough
word_of_parts : (text : List ℕ) (sign : Sign) (whole : List ℕ) (fraction : Option (List ℕ)) → HasParts text sign whole fraction
    → length whole ≤ 8 → length (digits_behind fraction) ≤ 6
    → word_literal text ≡ Ok (record { value = with_sign (is_minus sign) (size_of_parts whole (digits_behind fraction)); point = is_some fraction })
word_of_parts text sign whole fraction parts short_whole short_fraction =
    let whole_short : length (significant (whole_part text)) ≤ 8 = rw parts.whole_is (omega (arith, length-significant-le whole)) in
    let fraction_short : length (fraction_part text) ≤ 6 = rw parts.fraction_is short_fraction in
    rw (few_digits text whole_short fraction_short, parts.minus_is, parts.whole_is, parts.fraction_is, parts.point_is) refl

-- ---- values

-- the digits that are printed after the point, if the fraction isn't 0
abbrev pub printed_fraction : ℕ → Option (List ℕ)
printed_fraction millionths = cond (millionths == 0) None (Some (without_trailing_zeros (last_digits 6 millionths)))

-- the fraction's text is a point and these digits, or nothing
printed_fraction_bytes : (millionths : ℕ) → fraction_text millionths ≡ point_bytes (printed_fraction millionths)
printed_fraction_bytes millionths = go (millionths == 0)
  where
    go : (test : Bool) → cond test [] (46 ∷ without_trailing_zeros (last_digits 6 millionths)) ≡ point_bytes (cond test None (Some (without_trailing_zeros (last_digits 6 millionths))))
    go true = refl
    go false = refl

-- the digits after the point are digits, at most 6, and write the fraction
pub record IsFraction (digits : List ℕ) (millionths : ℕ) : Type 0 where
  -- the text has digits alone
  pub digits_alone : all_digits digits ≡ true
  -- there are at most six digits
  pub short : length digits ≤ 6
  -- with zeros up to six they write the fraction's millionths
  pub value : digits_value 10 digits * 10 ^ (6 - length digits) ≡ millionths

-- six digits without the zeros at the end still write the fraction
trimmed_is_fraction : (millionths : ℕ) → millionths < 1000000 → IsFraction (without_trailing_zeros (last_digits 6 millionths)) millionths
trimmed_is_fraction millionths small =
    let six = length-last 6 millionths in
    record {
      digits_alone = all_digits-trim (last_digits 6 millionths) (all_digits-last 6 millionths);
      short = (let shorter = length-trim-le (last_digits 6 millionths) in omega arith);
      value = ap (λ n. digits_value 10 (without_trailing_zeros (last_digits 6 millionths)) * 10 ^ (n - length (without_trailing_zeros (last_digits 6 millionths)))) (sym six)
          ∙ sym (value-trim (last_digits 6 millionths) 0) ∙ value-last 6 millionths small;
    }

-- the digits that are printed write the fraction
printed_is_fraction : (millionths : ℕ) → millionths < 1000000 → IsFraction (digits_behind (printed_fraction millionths)) millionths
printed_is_fraction millionths small = go (millionths == 0) refl
  where
    go : (test : Bool) → (millionths == 0) ≡ test → IsFraction (digits_behind (cond test None (Some (without_trailing_zeros (last_digits 6 millionths))))) millionths
    go true is = record { digits_alone = refl; short = omega arith; value = sym (eqb-true millionths 0 is) }
    go false is = trimmed_is_fraction millionths small

-- what is printed of a value is spelled as the grammar of literals says
value_is_written : (a : ℤ) → InRange a
    → IsWritten (value_text a) (printed_sign (is_negative a)) (decimal (unsigned_abs a / 1000000)) (printed_fraction (unsigned_abs a % 1000000))
value_is_written a range =
    let fraction = printed_is_fraction (unsigned_abs a % 1000000) (omega arith) in
    let small : unsigned_abs a / 1000000 < 2 ^ 64 = omega arith in
    record {
      bytes = append_assoc (sign_text (is_negative a)) (decimal (unsigned_abs a / 1000000)) (fraction_text (unsigned_abs a % 1000000))
          ∙ rw (printed_sign_bytes (is_negative a), printed_fraction_bytes (unsigned_abs a % 1000000)) refl;
      whole_digits = digits_decimal digits_model (unsigned_abs a / 1000000) small;
      fraction_digits = fraction.digits_alone;
      some_digit = (let first = decimal_nonempty (unsigned_abs a / 1000000) small in omega arith);
    }

-- what is printed of a value is a literal
pub value_is_literal : (a : ℤ) → InRange a → IsLiteral (value_text a)
value_is_literal a range = (parts_of_written _ _ _ _ (value_is_written a range)).literal

-- a minus is printed exactly for a value below 0
pub value_minus : (a : ℤ) → InRange a → has_minus (value_text a) ≡ is_negative a
value_minus a range = (parts_of_written _ _ _ _ (value_is_written a range)).minus_is ∙ printed_minus (is_negative a)

-- what is printed of a value reads as that value
pub value_reads_back : (a : ℤ) → InRange a → word_literal (value_text a) ≡ Ok (record { value = a; point = has_point (value_text a) })
value_reads_back a range =
    let parts = parts_of_written _ _ _ _ (value_is_written a range) in
    let small : unsigned_abs a / 1000000 < 2 ^ 64 = omega arith in
    let fraction = printed_is_fraction (unsigned_abs a % 1000000) (omega arith) in
    let short : length (decimal (unsigned_abs a / 1000000)) ≤ 8 = length-decimal-le 8 (unsigned_abs a / 1000000) (omega arith) (omega arith) small in
    let size : size_of_parts (decimal (unsigned_abs a / 1000000)) (digits_behind (printed_fraction (unsigned_abs a % 1000000))) ≡ unsigned_abs a =
    rw (digits_value-decimal digits_model (unsigned_abs a / 1000000) small, fraction.value) (omega arith) in
    word_of_parts _ _ _ _ parts short fraction.short
    ∙ rw (size, printed_minus (is_negative a), signed_size a, parts.point_is) refl

-- ---- lengths

-- what is printed of a length is spelled as the grammar of literals says
length_is_written : (a : ℤ) → unsigned_abs a ≤ 2 ^ 63
    → IsWritten (length_text a) (printed_sign (is_negative a)) (decimal (unsigned_abs a / 1000)) (Some (last_digits 3 (unsigned_abs a % 1000)))
length_is_written a range =
    let small : unsigned_abs a / 1000 < 2 ^ 64 = omega arith in
    record {
      bytes = append_assoc (sign_text (is_negative a)) (decimal (unsigned_abs a / 1000)) (46 ∷ last_digits 3 (unsigned_abs a % 1000))
          ∙ rw (printed_sign_bytes (is_negative a)) refl;
      whole_digits = digits_decimal digits_model (unsigned_abs a / 1000) small;
      fraction_digits = all_digits-last 3 (unsigned_abs a % 1000);
      some_digit = (let first = decimal_nonempty (unsigned_abs a / 1000) small in omega arith);
    }

-- what is printed of a length is a literal
pub length_is_literal : (a : ℤ) → unsigned_abs a ≤ 2 ^ 63 → IsLiteral (length_text a)
length_is_literal a range = (parts_of_written _ _ _ _ (length_is_written a range)).literal

-- a minus is printed exactly for a length below 0
pub length_minus : (a : ℤ) → unsigned_abs a ≤ 2 ^ 63 → has_minus (length_text a) ≡ is_negative a
length_minus a range = (parts_of_written _ _ _ _ (length_is_written a range)).minus_is ∙ printed_minus (is_negative a)

-- an increment of 0.001 is 1000 millionths, with the sign kept
thousandfold : (a : ℤ) → with_sign (is_negative a) (unsigned_abs a * 1000) ≡ a *ℤ pos 1000
thousandfold (pos n) = rw (negative_pos n) (sym (pos-*ℤ-pos n 1000))
thousandfold (negsuc n) = sym (negsuc-*ℤ-pos n 1000)

-- what is printed of a length reads as that many increments, with a point
pub length_reads_back : (a : ℤ) → unsigned_abs a ≤ 99999999999 → word_literal (length_text a) ≡ Ok (record { value = a *ℤ pos 1000; point = true })
length_reads_back a range =
    let small : unsigned_abs a / 1000 < 2 ^ 64 = omega arith in
    let short : length (decimal (unsigned_abs a / 1000)) ≤ 8 = length-decimal-le 8 (unsigned_abs a / 1000) (omega arith) (omega arith) small in
    let fraction = value-last 3 (unsigned_abs a % 1000) (omega arith) in
    let size : size_of_parts (decimal (unsigned_abs a / 1000)) (last_digits 3 (unsigned_abs a % 1000)) ≡ unsigned_abs a * 1000 =
    rw (digits_value-decimal digits_model (unsigned_abs a / 1000) small, fraction) (omega arith) in
    word_of_parts _ _ _ _ (parts_of_written _ _ _ _ (length_is_written a (omega arith))) short (omega arith)
    ∙ rw (size, printed_minus (is_negative a), thousandfold a) refl
