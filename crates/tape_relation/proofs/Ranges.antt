-- The sequence numbers and O numbers that the reader takes are those of the relation. For LineSays
-- and ProgramsSay.
use Rattle.std.proofs.Common.{◌≡◌, ◌==◌, ℕ, zero, suc, ◌+◌, ◌-◌, ◌*◌, ◌^◌, ◌<◌, ◌≤◌, Bool, true, false, cond, ◌&&◌, List, [], ◌∷◌, length, Option, Some, None, Result, Ok, Err, ℤ, pos, negsuc, inl, inr, refl, sym, ap, subst, ◌∙◌, arith}
use Rattle.std.specs.Prelude.{nat_le, nat_lt, is_some, unsigned_abs, int_rem, int_div, neg_ℤ, ◌+ℤ◌, ◌*ℤ◌}
use Rattle.std.specs.Char.{is_ascii_digit, digit_value}
use Rattle.std.specs.List.{list_all}
use Rattle.std.specs.Str.Parse.{digits_value, digits_value_after}
use Rattle.std.proofs.Math.Nat.{one-le-pow}
use Rattle.std.proofs.lemmas.Int.{quot-rem, rem_below, ints}
use Rattle.std.proofs.lemmas.Bool.{eqb-true, eq-eqb, or_parts}
use Rattle.std.proofs.lemmas.Bool.Decides.{nat_tests}
use Rattle.nc_number.specs.declared.literal.Literal.{Literal}
use Rattle.nc_number.specs.declared.fault.NumberFault.{NumberFault}
use Rattle.nc_number.specs.Arithmetic.{is_zero, whole_of}
use Rattle.nc_number.specs.declared.fault.NumberFault.TheVariants.{TooManyDigits}
use Rattle.nc_number.specs.Literals.{is_literal, word_literal, has_minus, has_point, whole_part, fraction_part, significant, has_too_many_digits, size_of_parts, literal_micro, with_sign}
use Rattle.nc_number.proofs.DecimalDigits.{digit_value_is, fraction_below}
use Rattle.nc_number.proofs.LastDigits.{value_of_zeros}
use Rattle.nc_number.proofs.Bools.{both}
use Rattle.line_text.specs.Values.{in_range, range_of, number_in}
use Rattle.tape_relation.specs.Numbers.{IsSign, IsWritten, HasTooMany, Writes, IsSequenceNumber}
use Rattle.tape_relation.specs.LineAlone.{LacksSequenceNumber}
use Rattle.tape_relation.proofs.LiteralParts.{is_minus, written, written_parts, many_read, many_found}

-- The next six are on values in millionths: when one is a whole number, and when a number is in a
-- range.
none_over : (z : ℤ) → z ≡ pos 0 → is_zero z ≡ true
none_over z e = ap is_zero e

none_left : (z : ℤ) → is_zero z ≡ true → z ≡ pos 0
none_left (pos n) e = ap pos (eqb-true n 0 e)
none_left (negsuc n) e = let no_zero : suc n ≡ 0 = eqb-true (suc n) 0 e in absurd (omega arith)

whole_number : (n : ℕ) → whole_of (pos (n * 1000000)) ≡ Some (pos n)
whole_number n =
    let a : ℤ = pos (n * 1000000) in
    let q : ℤ = int_div a (pos 1000000) in
    let r : ℤ = int_rem a (pos 1000000) in
    let parts : q *ℤ pos 1000000 +ℤ r ≡ a = quot-rem a (pos 1000000) in
    let below : unsigned_abs r < 1000000 = rem_below a (pos 1000000) (omega arith) in
    let rest : r ≡ pos 0 = omega (arith, ints) in
    let whole : q ≡ pos n = omega (arith, ints) in
    rw (none_over r rest) (ap Some whole)

whole_only : (a : ℤ) (n : ℕ) → whole_of a ≡ Some (pos n) → a ≡ pos (n * 1000000)
whole_only a n e = go (is_zero (int_rem a (pos 1000000))) refl e
  where
    go : (t : Bool) → is_zero (int_rem a (pos 1000000)) ≡ t → cond t (Some (int_div a (pos 1000000))) None ≡ Some (pos n) → a ≡ pos (n * 1000000)
    go true z h =
        let q : ℤ = int_div a (pos 1000000) in
        let r : ℤ = int_rem a (pos 1000000) in
        let parts : q *ℤ pos 1000000 +ℤ r ≡ a = quot-rem a (pos 1000000) in
        let rest : r ≡ pos 0 = none_left r z in
        let whole : q ≡ pos n = cc in omega (arith, ints)
    go false z h = absurd cc

within : (low high n : ℕ) → low ≤ n → n ≤ high → (nat_le low n && nat_le n high) ≡ true
within low high n p q = grind (arith, nat_tests)

in_range_read : (low high n : ℕ) → low ≤ n → n ≤ high → in_range low high (Some (pos n)) ≡ Some n
in_range_read low high n p q = rw (within low high n p q) refl

-- What a literal writes.

-- the literal is not too long, and its value is this whole number, in millionths
abbrev Valued : List ℕ → ℕ → Type 0
Valued text n = (literal : Literal) × (word_literal text ≡ Ok literal) × (literal.value ≡ pos (n * 1000000))

-- a literal with not too many digits by the grammar has not too many to the reader
few_read : (text sign whole fraction : List ℕ) → IsWritten text sign whole fraction → (HasTooMany whole fraction → ⊥) → has_too_many_digits text ≡ false
few_read text sign whole fraction w few = go (has_too_many_digits text) refl
  where
    go : (t : Bool) → has_too_many_digits text ≡ t → has_too_many_digits text ≡ false
    go true e =
        let P : List ℕ → Type 0 = λ ds. HasTooMany ds (fraction_part text) in
        let Q : List ℕ → Type 0 = λ ds. HasTooMany whole ds in
        absurd (few (subst Q (written_parts text sign whole fraction w).fraction_is (subst P (written_parts text sign whole fraction w).whole_is (many_found text e))))
    go false e = e

-- a literal that writes a whole number by the relation has it as its value
writes_read : (text : List ℕ) (n : ℕ) → Writes text n → Valued text n
writes_read text n w =
    let few = few_read text w.sign w.whole w.fraction w.written w.few in
    let p = written_parts text w.sign w.whole w.fraction w.written in
    let nothing : digits_value 10 w.fraction ≡ 0 * 10 ^ length w.fraction = value_of_zeros w.fraction 0 w.zeros in
    let none : digits_value 10 w.fraction ≡ 0 = omega arith in
    let size : size_of_parts (whole_part text) (fraction_part text) ≡ n * 1000000 =
    ap (λ (ds : List ℕ). size_of_parts ds (fraction_part text)) p.whole_is ∙ ap (size_of_parts w.whole) p.fraction_is ∙ ap (λ (k : ℕ). digits_value 10 w.whole * 1000000 + k * 10 ^ (6 - length w.fraction)) none
    ∙ scaled (digits_value 10 w.whole) (10 ^ (6 - length w.fraction)) n w.value
    in
    let value : literal_micro text ≡ pos (n * 1000000) = ap (λ (t : Bool). with_sign t (size_of_parts (whole_part text) (fraction_part text))) p.minus_is ∙ ap (with_sign (is_minus w.sign)) size ∙ signed_value w.sign w.written.sign_is w.minus in
    (record { value = literal_micro text; point = has_point text }, rw few refl, value)
  where
    scaled : (d k m : ℕ) → m ≡ d → d * 1000000 + 0 * k ≡ m * 1000000
    scaled d k m e = omega arith

    signed_value : (sign : List ℕ) → IsSign sign → (sign ≡ 45 ∷ [] → n ≡ 0) → with_sign (is_minus sign) (n * 1000000) ≡ pos (n * 1000000)
    signed_value sign (inl is) minus = ap (λ (s : List ℕ). with_sign (is_minus s) (n * 1000000)) is
    signed_value sign (inr (inl is)) minus = ap (λ (s : List ℕ). with_sign (is_minus s) (n * 1000000)) is
    signed_value sign (inr (inr is)) minus =
        let none : n ≡ 0 = minus is in
        ap (λ (k : ℕ). with_sign (is_minus sign) (k * 1000000)) none ∙ ap (λ (s : List ℕ). with_sign (is_minus s) (0 * 1000000)) is ∙ ap (λ (k : ℕ). pos (k * 1000000)) (sym none)

-- digits that write 0 are zeros
digits_of_nothing : (digits : List ℕ) (n : ℕ) → list_all is_ascii_digit digits ≡ true → digits_value_after 10 n digits ≡ 0 → (n ≡ 0) × (list_all (λ digit. digit == 48) digits ≡ true)
digits_of_nothing [] n all e = (e, refl)
digits_of_nothing (d ∷ digits) n all e =
    let p = both (is_ascii_digit d) (list_all is_ascii_digit digits) all in
    let later = digits_of_nothing digits (n * 10 + digit_value d) p.1 e in
    let first : n * 10 + digit_value d ≡ 0 = later.0 in
    let range = digit_range d p.0 in
    let weight : digit_value d ≡ d - 48 = digit_value_is d range.0 range.1 in
    let zero_digit : d ≡ 48 = omega arith in
    (omega arith, rw (eq-eqb d 48 zero_digit) later.1)
  where
    digit_range : (b : ℕ) → is_ascii_digit b ≡ true → (48 ≤ b) × (b ≤ 57)
    digit_range b is = (low b is, high b is)
      where
        low : (c : ℕ) → is_ascii_digit c ≡ true → 48 ≤ c
        low c is = grind (arith, nat_tests)

        high : (c : ℕ) → is_ascii_digit c ≡ true → c ≤ 57
        high c is = grind (arith, nat_tests)

-- a size of whole units has no fraction
unit_parts : (whole f n : ℕ) → f < 1000000 → whole * 1000000 + f ≡ n * 1000000 → (n ≡ whole) × (f ≡ 0)
unit_parts whole f n below e = (omega arith, omega arith)

-- a product that is 0 has a factor 0
none_scaled : (f k : ℕ) → 0 < k → f * k ≡ 0 → f ≡ 0
none_scaled zero k some e = refl
none_scaled (suc f) k some e = let more : suc f * k ≡ k + f * k = omega arith in absurd (omega arith)

-- a literal whose value is a whole number writes that number by the relation
writes_found : (text : List ℕ) (n : ℕ) → is_literal text ≡ true → Valued text n → Writes text n
writes_found text n is (literal, read, value) = go (has_too_many_digits text) refl read
  where
    go : (t : Bool) → has_too_many_digits text ≡ t → cond t (Err TooManyDigits) (Ok (record { value = literal_micro text; point = has_point text })) ≡ Ok literal → Writes text n
    go true e h = absurd cc
    go false e h =
        let same : record { value = literal_micro text; point = has_point text } ≡ literal = cc in
        let micro : with_sign (has_minus text) (size_of_parts (whole_part text) (fraction_part text)) ≡ pos (n * 1000000) = ap (λ (l : Literal). l.value) same ∙ value in
        let w = written text is in
        let p = written_parts text w.0 (whole_part text) (fraction_part text) w.1 in
        let short = or_parts (nat_lt 8 (length (significant (whole_part text)))) (nat_lt 6 (length (fraction_part text))) e in
        let below = fraction_below (fraction_part text) w.1.fraction_are (not_above (length (fraction_part text)) short.1) in
        parts w.0 w.1 (at (has_minus text) refl micro below) p.minus_is
      where
        not_above : (k : ℕ) → nat_lt 6 k ≡ false → k ≤ 6
        not_above k off = grind (arith, nat_tests)

        at : (m : Bool) → has_minus text ≡ m → with_sign m (size_of_parts (whole_part text) (fraction_part text)) ≡ pos (n * 1000000) → digits_value 10 (fraction_part text) * 10 ^ (6 - length (fraction_part text)) < 1000000
            → (n ≡ digits_value 10 (whole_part text)) × ((digits_value 10 (fraction_part text) * 10 ^ (6 - length (fraction_part text)) ≡ 0) × (has_minus text ≡ true → n ≡ 0))
        at false m h below =
            let sizes : digits_value 10 (whole_part text) * 1000000 + digits_value 10 (fraction_part text) * 10 ^ (6 - length (fraction_part text)) ≡ n * 1000000 = cc in
            let u = unit_parts (digits_value 10 (whole_part text)) (digits_value 10 (fraction_part text) * 10 ^ (6 - length (fraction_part text))) n below sizes in
            (u.0, (u.1, λ on. let bad : true ≡ false = sym on ∙ m in absurd cc))
        at true m h below =
            let z = negative (size_of_parts (whole_part text) (fraction_part text)) (n * 1000000) h in
            let sizes : digits_value 10 (whole_part text) * 1000000 + digits_value 10 (fraction_part text) * 10 ^ (6 - length (fraction_part text)) ≡ n * 1000000 = z.0 ∙ sym z.1 in
            let u = unit_parts (digits_value 10 (whole_part text)) (digits_value 10 (fraction_part text) * 10 ^ (6 - length (fraction_part text))) n below sizes in
            (u.0, (u.1, λ on. let none : n * 1000000 ≡ 0 = z.1 in omega arith))
          where
            negative : (a b : ℕ) → neg_ℤ (pos a) ≡ pos b → (a ≡ 0) × (b ≡ 0)
            negative zero b e = let same : 0 ≡ b = cc in (refl, sym same)
            negative (suc a) b e = absurd cc

        parts : (sign : List ℕ) → IsWritten text sign (whole_part text) (fraction_part text) → (n ≡ digits_value 10 (whole_part text)) × ((digits_value 10 (fraction_part text) * 10 ^ (6 - length (fraction_part text)) ≡ 0) × (has_minus text ≡ true → n ≡ 0)) → has_minus text ≡ is_minus sign → Writes text n
        parts sign w (whole, (none, minus)) minus-is =
            let ten : 0 < 10 = omega arith in
            let nothing : digits_value 10 (fraction_part text) ≡ 0 = none_scaled (digits_value 10 (fraction_part text)) (10 ^ (6 - length (fraction_part text))) (one-le-pow (6 - length (fraction_part text)) 10 ten) none in
            record {
              sign = sign;
              whole = whole_part text;
              fraction = fraction_part text;
              written = w;
              few = λ many. let bad : true ≡ false = sym (many_read text sign (whole_part text) (fraction_part text) w many) ∙ e in absurd cc;
              value = whole;
              zeros = (digits_of_nothing (fraction_part text) 0 w.fraction_are nothing).1;
              minus = λ s. minus (minus-is ∙ ap is_minus s);
            }

-- The ranges.

-- the literal writes this whole number, which is from low to high
abbrev pub IsNumber : ℕ → ℕ → List ℕ → ℕ → Type 0
IsNumber low high text n = Writes text n × (low ≤ n) × (n ≤ high)

-- a literal that writes a number of the range is read as that number
pub number_read : (low high : ℕ) (text : List ℕ) (n : ℕ) → IsNumber low high text n → number_in low high text ≡ Some n
unfolding number_in
number_read low high text n (writes, from, to) =
    let (literal, is, value) = writes_read text n writes in
    ap (range_of low high) is ∙ ap (λ (v : ℤ). in_range low high (whole_of v)) value ∙ ap (in_range low high) (whole_number n) ∙ in_range_read low high n from to

-- a whole number that the reader finds in the range is that number, and lies in it
in_range_found : (low high : ℕ) (whole : Option ℤ) (n : ℕ) → in_range low high whole ≡ Some n → (whole ≡ Some (pos n)) × ((low ≤ n) × (n ≤ high))
in_range_found low high None n e = absurd cc
in_range_found low high (Some (negsuc m)) n e = absurd cc
in_range_found low high (Some (pos m)) n e = go (nat_le low m) refl (nat_le m high) refl e
  where
    go : (a : Bool) → nat_le low m ≡ a → (b : Bool) → nat_le m high ≡ b → cond (a && b) (Some m) None ≡ Some n → (Some (pos m) ≡ Some (pos n)) × ((low ≤ n) × (n ≤ high))
    go true p true q h = let same : m ≡ n = cc in (ap (λ (k : ℕ). Some (pos k)) same, (low_is p same, high_is q same))
      where
        low_is : nat_le low m ≡ true → m ≡ n → low ≤ n
        low_is p same = grind (arith, nat_tests)

        high_is : nat_le m high ≡ true → m ≡ n → n ≤ high
        high_is q same = grind (arith, nat_tests)
    go true p false q h = absurd cc
    go false p b q h = absurd cc

-- a number of the range that the reader takes is what the literal writes
pub number_found : (low high : ℕ) (text : List ℕ) (n : ℕ) → is_literal text ≡ true → number_in low high text ≡ Some n → IsNumber low high text n
unfolding number_in
number_found low high text n lit e = go (word_literal text) refl e
  where
    go : (read : Result Literal NumberFault) → word_literal text ≡ read → range_of low high read ≡ Some n → IsNumber low high text n
    go (Ok literal) is h = let p = in_range_found low high (whole_of literal.value) n h in (writes_found text n lit (literal, is, whole_only literal.value n p.0), p.1.0, p.1.1)
    go (Err fault) is h = absurd cc

-- if a literal writes no number of the range, the reader takes none
pub lacks_read : (low high : ℕ) (text : List ℕ) → is_literal text ≡ true → ((n : ℕ) → IsNumber low high text n → ⊥) → is_some (number_in low high text) ≡ false
lacks_read low high text lit lacks = go (number_in low high text) refl
  where
    go : (found : Option ℕ) → number_in low high text ≡ found → is_some (number_in low high text) ≡ false
    go (Some n) e = absurd (lacks n (number_found low high text n lit e))
    go None e = ap is_some e

-- if the reader takes no number of the range, the literal writes none
pub lacks_found : (low high : ℕ) (text : List ℕ) → is_some (number_in low high text) ≡ false → (n : ℕ) → IsNumber low high text n → ⊥
lacks_found low high text e n is = let bad : true ≡ false = sym (ap is_some (number_read low high text n is)) ∙ e in absurd cc

-- if the reader takes a number of the range, the literal writes one, and it is that
pub has_found : (low high : ℕ) (text : List ℕ) → is_literal text ≡ true → is_some (number_in low high text) ≡ true → (n : ℕ) × (number_in low high text ≡ Some n) × IsNumber low high text n
has_found low high text lit e = go (number_in low high text) refl e
  where
    go : (found : Option ℕ) → number_in low high text ≡ found → is_some found ≡ true → (n : ℕ) × (number_in low high text ≡ Some n) × IsNumber low high text n
    go (Some n) f h = (n, f, number_found low high text n lit f)
    go None f h = absurd cc

-- Sequence numbers and O numbers.

-- a sequence number is a number from 0 to 99,999
pub sequence_number : (text : List ℕ) (n : ℕ) → IsSequenceNumber text n → IsNumber 0 99999 text n
sequence_number text n (writes, to) = (writes, omega arith, to)

-- a literal that is no sequence number writes no number from 0 to 99,999
pub lacks_sequence : (text : List ℕ) → LacksSequenceNumber text → (n : ℕ) → IsNumber 0 99999 text n → ⊥
lacks_sequence text lacks n (writes, from, to) = lacks n (writes, to)
