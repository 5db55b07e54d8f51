-- A literal that reads is a value, and one without a point is a whole number: for two laws of
-- src/laws.rt, `what_reads_is_a_value` and `a_literal_without_a_point_counts_thousandths`.
use Rattle.std.proofs.Common.{◌≡◌, ◌<◌, ◌≤◌, ◌*◌, ◌+◌, ◌/◌, ◌%◌, ℕ, ℤ, pos, ◌*ℤ◌, Bool, true, false, cond, List, [], Option, Some, None, is_some, Ok, Err, refl, ap, sym, ◌∙◌, arith}
use Rattle.std.specs.Prelude.{nat_le, unsigned_abs}
use Rattle.std.specs.Int.{is_negative}
use Rattle.std.specs.Str.Parse.{digits_value}
use Rattle.std.proofs.lemmas.Bool.{leb-true, ltb-false}
use Rattle.nc_number.specs.declared.fault.NumberFault.TheVariants.{TooManyDigits}
use Rattle.nc_number.specs.declared.literal.Literal.{Literal}
use Rattle.nc_number.specs.Arithmetic.{nearest, nearest_quotient}
use Rattle.nc_number.specs.Conversions.{thousandths_of}
use Rattle.nc_number.specs.Literals.{IsLiteral, significant, behind_sign, whole_part, fraction_part, has_minus, has_point, has_too_many_digits, size_of_parts, literal_micro, with_sign, word_literal}
use Rattle.nc_number.specs.Range.{InRange}
use Rattle.nc_number.specs.Spelling.{digits_behind}
use Rattle.nc_number.proofs.Bools.{neither}
use Rattle.nc_number.proofs.DecimalDigits.{size_below, value-significant, all_digits-significant}
use Rattle.nc_number.proofs.NearestQuotient.{size_with_sign, signed_times, signed_size}
use Rattle.nc_number.proofs.Spellings.{written_literal, fraction_of, parts_of_written}
use Rattle.nc_number.proofs.WordLiterals.{whole_digits, fraction_digits}

-- a text that reads has not too many digits, and the literal is its number and whether it has a
-- point
reads_as : (text : List ℕ) (literal : Literal) → word_literal text ≡ Ok literal
    → (has_too_many_digits text ≡ false) × (literal.value ≡ literal_micro text) × (literal.point ≡ has_point text)
reads_as text literal reads = go (has_too_many_digits text) refl reads
  where
    read : Literal
    read = record { value = literal_micro text; point = has_point text }

    go : (many : Bool) → has_too_many_digits text ≡ many → cond many (Err TooManyDigits) (Ok read) ≡ Ok literal
        → (has_too_many_digits text ≡ false) × (literal.value ≡ literal_micro text) × (literal.point ≡ has_point text)
    go true many is = cc
    go false few is = let same : read ≡ literal = cc in (few, ap (λ l. l.value) (sym same), ap (λ l. l.point) (sym same))

-- a literal that reads is in the range of a value, 99,999,999.999999 either way
pub literal_in_range : (text : List ℕ) (literal : Literal) → IsLiteral text → word_literal text ≡ Ok literal → InRange literal.value
literal_in_range text literal is reads =
    let told = reads_as text literal reads in
    let few = neither _ _ told.0 in
    let size : size_of_parts (significant (whole_part text)) (fraction_part text) ≤ 99999999999999 =
    size_below (significant (whole_part text)) (fraction_part text) (all_digits-significant (whole_part text) (whole_digits text is)) (ltb-false _ _ few.0) (fraction_digits text is) (ltb-false _ _ few.1) in
    let value : digits_value 10 (significant (whole_part text)) ≡ digits_value 10 (whole_part text) = value-significant (whole_part text) in
    let magnitude = size_with_sign (has_minus text) (size_of_parts (whole_part text) (fraction_part text)) in
    rw (told.1, magnitude) (rw value at size)

-- the nearest quotient of a multiple of d, times d, is that multiple
multiple_nearest : (n d : ℕ) → 0 < d → n % d ≡ 0 → nearest n d * d ≡ n
multiple_nearest n d positive multiple = go (nat_le d (2 * (n % d))) refl
  where
    go : (test : Bool) → nat_le d (2 * (n % d)) ≡ test → cond test (n / d + 1) (n / d) * d ≡ n
    go true half = let more = leb-true _ _ half in absurd (omega arith)
    go false less = omega arith

-- a whole number of units is its nearest quotient by a unit, times a unit
multiple_quotient : (a : ℤ) → unsigned_abs a % 1000000 ≡ 0 → nearest_quotient a (pos 1000000) *ℤ pos 1000000 ≡ a
multiple_quotient a multiple =
    let near = nearest (unsigned_abs a) 1000000 in
    signed_times (is_negative a) near (pos 1000000)
    ∙ ap (with_sign (is_negative a)) (multiple_nearest (unsigned_abs a) 1000000 (omega arith) multiple)
    ∙ signed_size a

-- a literal without a point has no fraction
no_fraction : (text : List ℕ) → IsLiteral text → has_point text ≡ false → fraction_part text ≡ []
no_fraction text is point_free =
    let parts = parts_of_written _ _ _ _ (written_literal text is) in
    parts.fraction_is ∙ go (fraction_of (behind_sign text)) (sym parts.point_is ∙ point_free)
  where
    go : (fraction : Option (List ℕ)) → is_some fraction ≡ false → digits_behind fraction ≡ []
    go None nothing = refl
    go (Some digits) nothing = cc

-- a literal without a point is as many units as it counts thousandths
pub literal_without_point : (text : List ℕ) (literal : Literal) → IsLiteral text → word_literal text ≡ Ok literal → literal.point ≡ false
    → literal.value ≡ thousandths_of literal *ℤ pos 1000000
literal_without_point text literal is reads point_free =
    let told = reads_as text literal reads in
    let fraction = no_fraction text is (sym told.2 ∙ point_free) in
    let size : unsigned_abs literal.value ≡ digits_value 10 (whole_part text) * 1000000 =
    rw (told.1, size_with_sign (has_minus text) (size_of_parts (whole_part text) (fraction_part text)), fraction) (omega arith) in
    rw point_free (sym (multiple_quotient literal.value (omega arith)))
