-- The parts of a literal of a tape, and what too many digits are, by the grammar and to the reader.
-- For Values, Ranges, LongFronts, LongNumbers, Found, Sentences and LineSays.
use Rattle.std.proofs.Common.{◌≡◌, ◌==◌, ℕ, suc, ◌+◌, ◌<◌, ◌≤◌, Bool, true, false, not, ◌&&◌, ◌||◌, List, [], ◌∷◌, ◌++◌, length, ◌⊎◌, inl, inr, refl, sym, ap, subst, ◌∙◌, arith}
use Rattle.std.specs.Prelude.{nat_lt}
use Rattle.std.specs.Char.{is_ascii_digit}
use Rattle.std.specs.List.{list_all, position_or_len, before_first, after_first}
use Rattle.std.proofs.lemmas.Bool.{eqb-true, or_parts}
use Rattle.std.proofs.lemmas.Bool.Decides.{nat_tests}
use Rattle.std.proofs.lemmas.List.{length-append}
use Rattle.nc_number.specs.Literals.{is_literal, is_sign, behind_sign, has_minus, is_point, whole_part, fraction_part, significant, has_too_many_digits}
use Rattle.nc_number.proofs.Spellings.{digit_no_point, digit_no_sign}
use Rattle.nc_number.proofs.Counts.{lt_true, true_lt}
use Rattle.nc_number.proofs.Bools.{both}
use Rattle.tape_relation.specs.Numbers.{IsSign, IsWritten, IsLiteral, HasTooMany}

-- Digits, a point and digits, as a literal has them.

-- a point is no digit
pub point_no_digit : (b : ℕ) → is_point b ≡ true → is_ascii_digit b ≡ false
point_no_digit b is = grind (arith, nat_tests)

-- the text has these digits before its point and these after it
abbrev pub Parts : List ℕ → List ℕ → List ℕ → Type 0
Parts text whole fraction = (before_first is_point text ≡ whole) × (after_first is_point text ≡ fraction)

-- a byte more in front that is no point is one more digit before the point
parts_on : (b : ℕ) (text whole fraction : List ℕ) → is_point b ≡ false → Parts text whole fraction → Parts (b ∷ text) (b ∷ whole) fraction
parts_on b text whole fraction off (w, f) =
    let one : 1 + position_or_len is_point text ≡ suc (position_or_len is_point text) = omega arith in
    let two : suc (position_or_len is_point text) + 1 ≡ suc (position_or_len is_point text + 1) = omega arith in
    (rw (off, one) (ap (λ (bs : List ℕ). b ∷ bs) w), rw (off, one) (rw two f))

-- digits without a point are all before it
pub parts_digits : (whole : List ℕ) → list_all is_ascii_digit whole ≡ true → Parts whole whole []
parts_digits [] all = (refl, refl)
parts_digits (b ∷ whole) all = let p = both (is_ascii_digit b) (list_all is_ascii_digit whole) all in parts_on b whole whole [] (digit_no_point b p.0) (parts_digits whole p.1)

-- digits, a point and a rest have the rest after the point
pub parts_point : (b : ℕ) (whole fraction : List ℕ) → is_point b ≡ true → list_all is_ascii_digit whole ≡ true → Parts (whole ++ b ∷ fraction) whole fraction
parts_point b [] fraction is all = (rw is refl, rw is refl)
parts_point b (d ∷ whole) fraction is all = let p = both (is_ascii_digit d) (list_all is_ascii_digit whole) all in parts_on d (whole ++ b ∷ fraction) whole fraction (digit_no_point d p.0) (parts_point b whole fraction is p.1)

-- a text without a point, or a text before its first point, the point and the rest
abbrev pub Split : List ℕ → Type 0
Split text = ((before_first is_point text ≡ text) × (after_first is_point text ≡ [])) ⊎ ((b : ℕ) × (is_point b ≡ true) × (text ≡ before_first is_point text ++ b ∷ after_first is_point text))

-- each text is without a point, or has a first one
pub split : (text : List ℕ) → Split text
split [] = inl (refl, refl)
split (b ∷ text) = go (is_point b) refl (split text)
  where
    go : (t : Bool) → is_point b ≡ t → Split text → Split (b ∷ text)
    go true e later = inr (b, e, rw e refl)
    go false e (inl (w, f)) = let p = parts_on b text (before_first is_point text) (after_first is_point text) e (refl, refl) in inl (p.0 ∙ ap (λ (bs : List ℕ). b ∷ bs) w, p.1 ∙ f)
    go false e (inr (c, is, all)) =
        let p = parts_on b text (before_first is_point text) (after_first is_point text) e (refl, refl) in
        inr (c, is, ap (λ (bs : List ℕ). b ∷ bs) all ∙ ap (λ (bs : List ℕ). (b ∷ before_first is_point text) ++ c ∷ bs) (sym p.1) ∙ ap (λ (bs : List ℕ). bs ++ c ∷ after_first is_point (b ∷ text)) (sym p.0))

-- a text with one sign or none in front, and the rest
abbrev pub HasSign : List ℕ → Type 0
HasSign text = (sign : List ℕ) × (text ≡ sign ++ behind_sign text) × IsSign sign

-- each text begins with a sign, or with none
pub signed : (text : List ℕ) → HasSign text
signed [] = ([], refl, inl refl)
signed (b ∷ text) = go (b == 43) refl (b == 45) refl
  where
    go : (t : Bool) → (b == 43) ≡ t → (u : Bool) → (b == 45) ≡ u → HasSign (b ∷ text)
    go true e u f = (b ∷ [], rw e refl, inr (inl (ap (λ (k : ℕ). k ∷ []) (eqb-true b 43 e))))
    go false e true f = (b ∷ [], rw (e, f) refl, inr (inr (ap (λ (k : ℕ). k ∷ []) (eqb-true b 45 f))))
    go false e false f = ([], rw (e, f) refl, inl refl)

-- The parts that the grammar says.

-- whether the sign is a minus
abbrev pub is_minus : List ℕ → Bool
is_minus [] = false
is_minus (b ∷ text) = b == 45

-- the text does not begin with a sign
abbrev NoSign : List ℕ → Type 0
NoSign [] = Unit {0}
NoSign (b ∷ text) = is_sign b ≡ false

-- The next three: what the reader finds after a sign, and that digits or a point are no sign.
behind_written : (sign text : List ℕ) → IsSign sign → NoSign text → (behind_sign (sign ++ text) ≡ text) × (has_minus (sign ++ text) ≡ is_minus sign)
behind_written sign text (inl is) off = let P : List ℕ → Type 0 = λ s. (behind_sign (s ++ text) ≡ text) × (has_minus (s ++ text) ≡ is_minus s) in subst P (sym is) (alone text off)
  where
    alone : (t : List ℕ) → NoSign t → (behind_sign t ≡ t) × (has_minus t ≡ false)
    alone [] off = (refl, refl)
    alone (b ∷ t) off = (rw off refl, (or_parts (b == 43) (b == 45) off).1)
behind_written sign text (inr (inl is)) off = let P : List ℕ → Type 0 = λ s. (behind_sign (s ++ text) ≡ text) × (has_minus (s ++ text) ≡ is_minus s) in subst P (sym is) (refl, refl)
behind_written sign text (inr (inr is)) off = let P : List ℕ → Type 0 = λ s. (behind_sign (s ++ text) ≡ text) × (has_minus (s ++ text) ≡ is_minus s) in subst P (sym is) (refl, refl)

whole_no_sign : (whole : List ℕ) → list_all is_ascii_digit whole ≡ true → NoSign whole
whole_no_sign [] all = tt
whole_no_sign (d ∷ whole) all = digit_no_sign d (both (is_ascii_digit d) (list_all is_ascii_digit whole) all).0

point_no_sign : (whole fraction : List ℕ) → list_all is_ascii_digit whole ≡ true → NoSign (whole ++ 46 ∷ fraction)
point_no_sign [] fraction all = refl
point_no_sign (d ∷ whole) fraction all = digit_no_sign d (both (is_ascii_digit d) (list_all is_ascii_digit whole) all).0

-- to nc_number's definitions, the text has these whole digits, these fraction digits and this sign
pub record HasParts (text sign whole fraction : List ℕ) : Type 0 where
  -- the digits before the point
  pub whole_is : whole_part text ≡ whole
  -- the digits after the point
  pub fraction_is : fraction_part text ≡ fraction
  -- it has a minus exactly if the sign is one
  pub minus_is : has_minus text ≡ is_minus sign

-- a literal as it is written has these parts for the reader
pub written_parts : (text sign whole fraction : List ℕ) → IsWritten text sign whole fraction → HasParts text sign whole fraction
written_parts text sign whole fraction w = go w.text_is
  where
    go : ((text ≡ sign ++ whole) × (fraction ≡ [])) ⊎ (text ≡ sign ++ (whole ++ 46 ∷ fraction)) → HasParts text sign whole fraction
    go (inl (is, none)) =
        let b = behind_written sign whole w.sign_is (whole_no_sign whole w.whole_are) in
        let behind : behind_sign text ≡ whole = ap behind_sign is ∙ b.0 in
        let p = parts_digits whole w.whole_are in
        record { whole_is = ap (before_first is_point) behind ∙ p.0; fraction_is = ap (after_first is_point) behind ∙ p.1 ∙ sym none; minus_is = ap has_minus is ∙ b.1 }
    go (inr is) =
        let b = behind_written sign (whole ++ 46 ∷ fraction) w.sign_is (point_no_sign whole fraction w.whole_are) in
        let behind : behind_sign text ≡ whole ++ 46 ∷ fraction = ap behind_sign is ∙ b.0 in
        let p = parts_point 46 whole fraction refl w.whole_are in
        record { whole_is = ap (before_first is_point) behind ∙ p.0; fraction_is = ap (after_first is_point) behind ∙ p.1; minus_is = ap has_minus is ∙ b.1 }

-- These two: that there is a digit, as a test and as a fact.
some_digit : (n : ℕ) → 0 < n → nat_lt 0 n ≡ true
some_digit n some = grind (arith, nat_tests)

digit_some : (n : ℕ) → nat_lt 0 n ≡ true → 0 < n
digit_some n some = grind (arith, nat_tests)

-- a literal of the grammar is one for the reader
pub literal_read : (text : List ℕ) → IsLiteral text → is_literal text ≡ true
literal_read text (sign, whole, fraction, w) =
    let p = written_parts text sign whole fraction w in rw (p.whole_is, p.fraction_is, w.whole_are, w.fraction_are, some_digit (length whole + length fraction) w.some) refl

-- a literal to the reader is written of the parts that the reader finds
pub written : (text : List ℕ) → is_literal text ≡ true → (sign : List ℕ) × IsWritten text sign (whole_part text) (fraction_part text)
written text is =
    let p = both (list_all is_ascii_digit (whole_part text) && list_all is_ascii_digit (fraction_part text)) (nat_lt 0 (length (whole_part text) + length (fraction_part text))) is in
    let q = both (list_all is_ascii_digit (whole_part text)) (list_all is_ascii_digit (fraction_part text)) p.0 in
    let s = signed text in
    (s.0, record { sign_is = s.2; whole_are = q.0; fraction_are = q.1; some = digit_some (length (whole_part text) + length (fraction_part text)) p.1; text_is = go s.0 s.1 (split (behind_sign text)) })
  where
    go : (sign : List ℕ) → text ≡ sign ++ behind_sign text → Split (behind_sign text) → ((text ≡ sign ++ whole_part text) × (fraction_part text ≡ [])) ⊎ (text ≡ sign ++ (whole_part text ++ 46 ∷ fraction_part text))
    go sign is (inl (w, f)) = inl (is ∙ ap (λ (bs : List ℕ). sign ++ bs) (sym w), f)
    go sign is (inr (b, point, all)) = inr (is ∙ ap (λ (bs : List ℕ). sign ++ bs) all ∙ ap (λ (k : ℕ). sign ++ (whole_part text ++ k ∷ fraction_part text)) (eqb-true b 46 point))

-- a literal to the reader is a literal of the grammar
pub literal_found : (text : List ℕ) → is_literal text ≡ true → IsLiteral text
literal_found text is = let w = written text is in (w.0, whole_part text, fraction_part text, w.1)

-- a text that is no literal by the grammar is none to the reader
pub no_literal_read : (text : List ℕ) → (IsLiteral text → ⊥) → is_literal text ≡ false
no_literal_read text out = go (is_literal text) refl
  where
    go : (t : Bool) → is_literal text ≡ t → is_literal text ≡ false
    go true e = absurd (out (literal_found text e))
    go false e = e

-- a text that is no literal to the reader is none by the grammar
pub no_literal_found : (text : List ℕ) → is_literal text ≡ false → IsLiteral text → ⊥
no_literal_found text e is = let bad : true ≡ false = sym (literal_read text is) ∙ e in absurd cc

-- Too many digits.

-- with more digits behind them, whole digits have no fewer that count
pub significant_more : (whole more : List ℕ) → length (significant whole) ≤ length (significant (whole ++ more))
significant_more [] more = omega arith
significant_more (d ∷ whole) more = go (d == 48) refl (significant_more whole more)
  where
    go : (t : Bool) → (d == 48) ≡ t → length (significant whole) ≤ length (significant (whole ++ more)) → length (significant (d ∷ whole)) ≤ length (significant ((d ∷ whole) ++ more))
    go true e later =
        let one : 1 + position_or_len (λ c. not (c == 48)) whole ≡ suc (position_or_len (λ c. not (c == 48)) whole) = omega arith in
        let two : 1 + position_or_len (λ c. not (c == 48)) (whole ++ more) ≡ suc (position_or_len (λ c. not (c == 48)) (whole ++ more)) = omega arith in
        rw (e, one, two) later
    go false e later = rw e (omega (arith, length-append whole more))

-- the digits have one that is not 0, and so many or more after it
abbrev HasDigits : List ℕ → ℕ → Type 0
HasDigits whole n = (front : List ℕ) × (digit : ℕ) × (rest : List ℕ) × (whole ≡ front ++ digit ∷ rest) × ((digit == 48) ≡ false) × (n ≤ length rest)

-- The next three: digits count from the first one on that is not 0, as the grammar says it and as
-- the reader counts.
significant_rest : (front : List ℕ) (digit : ℕ) (rest : List ℕ) → (digit == 48) ≡ false → length rest < length (significant (front ++ digit ∷ rest))
significant_rest [] digit rest other = rw other (omega arith)
significant_rest (d ∷ front) digit rest other = go (d == 48) refl (significant_rest front digit rest other)
  where
    go : (t : Bool) → (d == 48) ≡ t → length rest < length (significant (front ++ digit ∷ rest)) → length rest < length (significant (d ∷ (front ++ digit ∷ rest)))
    go true e later = let one : 1 + position_or_len (λ c. not (c == 48)) (front ++ digit ∷ rest) ≡ suc (position_or_len (λ c. not (c == 48)) (front ++ digit ∷ rest)) = omega arith in rw (e, one) later
    go false e later = rw e (omega (arith, length-append front (digit ∷ rest)))

digit_before : (d : ℕ) (whole : List ℕ) (n : ℕ) → HasDigits whole n → HasDigits (d ∷ whole) n
digit_before d whole n (front, digit, rest, is, other, many) = (d ∷ front, digit, rest, ap (λ (bs : List ℕ). d ∷ bs) is, other, many)

rest_significant : (whole : List ℕ) (n : ℕ) → n < length (significant whole) → HasDigits whole n
rest_significant [] n long = absurd (omega arith)
rest_significant (d ∷ whole) n long = go (d == 48) refl long (rest_significant whole n)
  where
    go : (t : Bool) → (d == 48) ≡ t → n < length (significant (d ∷ whole)) → (n < length (significant whole) → HasDigits whole n) → HasDigits (d ∷ whole) n
    go true e h later =
        let one : 1 + position_or_len (λ c. not (c == 48)) whole ≡ suc (position_or_len (λ c. not (c == 48)) whole) = omega arith in
        digit_before d whole n (later (rw (e, one) at h))
    go false e h later = let all : n < length (d ∷ whole) = rw e at h in ([], d, whole, refl, e, omega arith)

-- a literal of too many digits by the grammar has too many to the reader
pub many_read : (text sign whole fraction : List ℕ) → IsWritten text sign whole fraction → HasTooMany whole fraction → has_too_many_digits text ≡ true
many_read text sign whole fraction w many = let p = written_parts text sign whole fraction w in rw (p.whole_is, p.fraction_is) (go many)
  where
    right : (a b : Bool) → b ≡ true → (a || b) ≡ true
    right true b e = refl
    right false b e = e

    go : HasTooMany whole fraction → (nat_lt 8 (length (significant whole)) || nat_lt 6 (length fraction)) ≡ true
    go (inl (front, digit, rest, is, other, more)) =
        let behind = significant_rest front digit rest other in
        let same : length (significant whole) ≡ length (significant (front ++ digit ∷ rest)) = ap (λ (ds : List ℕ). length (significant ds)) is in
        rw (lt_true 8 (length (significant whole)) (omega arith)) refl
    go (inr more) = right (nat_lt 8 (length (significant whole))) (nat_lt 6 (length fraction)) (lt_true 6 (length fraction) more)

-- a literal of too many digits to the reader has too many by the grammar
pub many_found : (text : List ℕ) → has_too_many_digits text ≡ true → HasTooMany (whole_part text) (fraction_part text)
many_found text e = go (nat_lt 8 (length (significant (whole_part text)))) refl (nat_lt 6 (length (fraction_part text))) refl e
  where
    go : (a : Bool) → nat_lt 8 (length (significant (whole_part text))) ≡ a → (b : Bool) → nat_lt 6 (length (fraction_part text)) ≡ b → (a || b) ≡ true → HasTooMany (whole_part text) (fraction_part text)
    go true x b y h = inl (rest_significant (whole_part text) 8 (true_lt 8 (length (significant (whole_part text))) x))
    go false x true y h = inr (true_lt 6 (length (fraction_part text)) y)
    go false x false y h = absurd cc
