-- A literal is what the grammar spells (specs/Spelling.antt), and its parts are those of the
-- spelling: for the law `a_literal_is_a_sign_digits_and_a_fraction` (src/laws.rt), ReadsBack and
-- LiteralsThatRead. A body is what stands after the sign.
use Rattle.std.proofs.Common.{◌≡◌, ◌==◌, ◌≤◌, ℕ, Bool, true, false, cond, List, [], ◌∷◌, ◌++◌, length, drop, get_or, refl, ap, sym, subst, ◌∙◌, arith, inl, inr, Option, Some, None, is_some, nat_lt}
use Rattle.std.specs.List.{list_any, position_or_len, before_first, after_first}
use Rattle.std.specs.Char.{is_ascii_digit}
use Rattle.std.proofs.lemmas.Bool.{and_parts, and_from, cases_eq, ne_eqb, eqb-true, lt-ltb, ltb-true, ltb-false, or_from}
use Rattle.std.proofs.lemmas.List.Folds.{list_any-append}
use Rattle.std.proofs.lemmas.List.Sums.{split_at_first, passes_at_first}
use Rattle.std.proofs.lemmas.List.{take_all, drop_all, append-nil}
use Rattle.std.proofs.Math.Seq.{take-append_seam, drop-append-add}
use Rattle.nc_number.specs.Literals.{IsLiteral, all_digits, is_point, is_sign, behind_sign, has_minus, has_point, whole_part, fraction_part}
use Rattle.nc_number.specs.Spelling.{Sign, Bare, Plus, Minus, sign_bytes, is_minus, point_bytes, digits_behind, IsWritten, HasParts}
use Rattle.nc_number.proofs.DecimalDigits.{digit_byte}

-- the byte of a digit is from 48 to 57
digit_range : (d : ℕ) → is_ascii_digit d ≡ true → (48 ≤ d) × (d ≤ 57)
digit_range d digit = let one : all_digits (d ∷ []) ≡ true = and_from _ _ digit refl in digit_byte (d ∷ []) 0 one (omega arith)

-- a digit is not a point
pub digit_no_point : (d : ℕ) → is_ascii_digit d ≡ true → is_point d ≡ false
digit_no_point d digit = let range = digit_range d digit in ne_eqb d 46 (λ is. absurd (omega arith))

-- a digit is not a sign
pub digit_no_sign : (d : ℕ) → is_ascii_digit d ≡ true → is_sign d ≡ false
digit_no_sign d digit = let range = digit_range d digit in
    or_from _ _ (ne_eqb d 43 (λ is. absurd (omega arith))) (ne_eqb d 45 (λ is. absurd (omega arith)))

-- a digit is not a minus (byte 45)
digit_no_minus : (d : ℕ) → is_ascii_digit d ≡ true → (d == 45) ≡ false
digit_no_minus d digit = let range = digit_range d digit in ne_eqb d 45 (λ is. absurd (omega arith))

-- the first point of a body stands after its whole digits
point_place : (whole : List ℕ) (fraction : Option (List ℕ)) → all_digits whole ≡ true → position_or_len is_point (whole ++ point_bytes fraction) ≡ length whole
point_place [] None digits = refl
point_place [] (Some fraction) digits = refl
point_place (d ∷ ds) fraction digits =
    let parts = and_parts _ _ digits in
    rw (digit_no_point d parts.0, point_place ds fraction parts.1) (omega arith)

-- before the first point stand the digits of the whole part
before_point : (whole : List ℕ) (fraction : Option (List ℕ)) → all_digits whole ≡ true → before_first is_point (whole ++ point_bytes fraction) ≡ whole
before_point whole fraction digits =
    rw (point_place whole fraction digits) (take-append_seam whole (point_bytes fraction))

-- after the first point stand the digits of the fraction
after_point : (whole : List ℕ) (fraction : Option (List ℕ)) → all_digits whole ≡ true → after_first is_point (whole ++ point_bytes fraction) ≡ digits_behind fraction
after_point whole fraction digits =
    rw (point_place whole fraction digits) (drop-append-add whole (point_bytes fraction) 1 ∙ behind fraction)
  where
    behind : (fraction : Option (List ℕ)) → drop 1 (point_bytes fraction) ≡ digits_behind fraction
    behind None = refl
    behind (Some fraction) = refl

-- a body has no sign
body_unsigned : (whole : List ℕ) (fraction : Option (List ℕ)) → all_digits whole ≡ true → behind_sign (whole ++ point_bytes fraction) ≡ whole ++ point_bytes fraction
body_unsigned [] None digits = refl
body_unsigned [] (Some fraction) digits = refl
body_unsigned (d ∷ ds) fraction digits = rw (digit_no_sign d (and_parts _ _ digits).0) refl

-- what stands after the sign begins with no minus
body_no_minus : (whole : List ℕ) (fraction : Option (List ℕ)) → all_digits whole ≡ true → has_minus (whole ++ point_bytes fraction) ≡ false
body_no_minus [] None digits = refl
body_no_minus [] (Some fraction) digits = refl
body_no_minus (d ∷ ds) fraction digits = digit_no_minus d (and_parts _ _ digits).0

-- digits hold no point
digits_no_point : (ds : List ℕ) → all_digits ds ≡ true → list_any is_point ds ≡ false
digits_no_point [] digits = refl
digits_no_point (d ∷ ds) digits =
    let parts = and_parts _ _ digits in or_from _ _ (digit_no_point d parts.0) (digits_no_point ds parts.1)

-- what stands after the sign has a point exactly if the spelling has one
body_point : (whole : List ℕ) (fraction : Option (List ℕ)) → all_digits whole ≡ true → list_any is_point (whole ++ point_bytes fraction) ≡ is_some fraction
body_point whole fraction digits =
    list_any-append is_point whole (point_bytes fraction) ∙ rw (digits_no_point whole digits) (behind fraction)
  where
    behind : (fraction : Option (List ℕ)) → list_any is_point (point_bytes fraction) ≡ is_some fraction
    behind None = refl
    behind (Some fraction) = refl

-- a body with a sign in front, without that sign, is the body
written_body : (sign : Sign) (whole : List ℕ) (fraction : Option (List ℕ)) → all_digits whole ≡ true → behind_sign (sign_bytes sign ++ (whole ++ point_bytes fraction)) ≡ whole ++ point_bytes fraction
written_body Bare whole fraction digits = body_unsigned whole fraction digits
written_body Plus whole fraction digits = refl
written_body Minus whole fraction digits = refl

-- a text begins with a minus exactly if its spelling does
written_minus : (sign : Sign) (whole : List ℕ) (fraction : Option (List ℕ)) → all_digits whole ≡ true → has_minus (sign_bytes sign ++ (whole ++ point_bytes fraction)) ≡ is_minus sign
written_minus Bare whole fraction digits = body_no_minus whole fraction digits
written_minus Plus whole fraction digits = refl
written_minus Minus whole fraction digits = refl

-- a text has a point exactly if its spelling does
written_point : (sign : Sign) (whole : List ℕ) (fraction : Option (List ℕ)) → all_digits whole ≡ true → has_point (sign_bytes sign ++ (whole ++ point_bytes fraction)) ≡ is_some fraction
written_point Bare whole fraction digits = body_point whole fraction digits
written_point Plus whole fraction digits = body_point whole fraction digits
written_point Minus whole fraction digits = body_point whole fraction digits

-- the parts of a text that is spelled so are those of the spelling
pub parts_of_written : (text : List ℕ) (sign : Sign) (whole : List ℕ) (fraction : Option (List ℕ)) → IsWritten text sign whole fraction → HasParts text sign whole fraction
parts_of_written text sign whole fraction written =
    let body : behind_sign text ≡ whole ++ point_bytes fraction = ap behind_sign written.bytes ∙ written_body sign whole fraction written.whole_digits in
    let whole_is : whole_part text ≡ whole = ap (before_first is_point) body ∙ before_point whole fraction written.whole_digits in
    let fraction_is : fraction_part text ≡ digits_behind fraction = ap (after_first is_point) body ∙ after_point whole fraction written.whole_digits in
    record {
      literal = rw (whole_is, fraction_is) (and_from _ _ (and_from _ _ written.whole_digits written.fraction_digits) (lt-ltb _ _ written.some_digit));
      minus_is = ap has_minus written.bytes ∙ written_minus sign whole fraction written.whole_digits;
      whole_is = whole_is;
      fraction_is = fraction_is;
      point_is = ap has_point written.bytes ∙ written_point sign whole fraction written.whole_digits;
    }

-- the sign that a text begins with, if it does
abbrev pub sign_of : List ℕ → Sign
sign_of [] = Bare
sign_of (b ∷ bs) = cond (b == 43) Plus (cond (b == 45) Minus Bare)

-- a text is its sign and what stands after it
signed_body : (text : List ℕ) → text ≡ sign_bytes (sign_of text) ++ behind_sign text
signed_body [] = refl
signed_body (b ∷ bs) =
    let P : ℕ → Type 0 = λ x. x ∷ bs ≡ sign_bytes (sign_of (x ∷ bs)) ++ behind_sign (x ∷ bs) in
    elim (cases_eq b 43) [
      | inl plus ↦ subst P (sym plus) refl
      | inr no_plus ↦ elim (cases_eq b 45) [
        | inl minus ↦ subst P (sym minus) refl
        | inr no_minus ↦ rw (ne_eqb b 43 no_plus, ne_eqb b 45 no_minus) refl
      ]
    ]

-- the digits after the point of a body, if it has a point
abbrev pub fraction_of : List ℕ → Option (List ℕ)
fraction_of body = cond (nat_lt (position_or_len is_point body) (length body)) (Some (after_first is_point body)) None

-- what stands after the sign is the whole part, and a point with a fraction if there is one
body_parts : (body : List ℕ) → body ≡ before_first is_point body ++ point_bytes (fraction_of body)
body_parts body = go (nat_lt (position_or_len is_point body) (length body)) refl
  where
    go : (test : Bool) → nat_lt (position_or_len is_point body) (length body) ≡ test
        → body ≡ before_first is_point body ++ point_bytes (cond test (Some (after_first is_point body)) None)
    go true is =
        let within = ltb-true _ _ is in
        let byte : get_or body (position_or_len is_point body) 0 ≡ 46 = eqb-true _ 46 (passes_at_first is_point body 0 within) in
        subst (λ b. body ≡ before_first is_point body ++ b ∷ after_first is_point body) byte (split_at_first is_point body 0 within)
    go false is = sym (append-nil (before_first is_point body) ∙ take_all _ body (ltb-false _ _ is))

-- the digits of the fraction are what stands after the point
body_fraction : (body : List ℕ) → digits_behind (fraction_of body) ≡ after_first is_point body
body_fraction body = go (nat_lt (position_or_len is_point body) (length body)) refl
  where
    go : (test : Bool) → nat_lt (position_or_len is_point body) (length body) ≡ test
        → digits_behind (cond test (Some (after_first is_point body)) None) ≡ after_first is_point body
    go true is = refl
    go false is = let past = ltb-false _ _ is in sym (drop_all _ body (omega arith))

-- each literal is spelled by its sign, its whole part and its fraction
pub written_literal : (text : List ℕ) → IsLiteral text → IsWritten text (sign_of text) (whole_part text) (fraction_of (behind_sign text))
written_literal text literal =
    let parts = and_parts _ _ literal in
    let fraction_is = body_fraction (behind_sign text) in
    record {
      bytes = signed_body text ∙ ap (λ body. sign_bytes (sign_of text) ++ body) (body_parts (behind_sign text));
      whole_digits = (and_parts _ _ parts.0).0;
      fraction_digits = rw fraction_is (and_parts _ _ parts.0).1;
      some_digit = rw fraction_is (ltb-true _ _ parts.1);
    }
