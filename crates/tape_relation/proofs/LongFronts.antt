-- A text begins with a literal of too many digits exactly if the longest literal that it begins
-- with has too many: the grammar says the first, the reader asks the second. For LongNumbers.
use Rattle.std.proofs.Common.{◌≡◌, ◌==◌, ℕ, zero, suc, ◌+◌, ◌≤◌, Bool, true, false, cond, ◌&&◌, ◌||◌, List, [], ◌∷◌, ◌++◌, length, take, drop, inl, inr, refl, sym, ap, subst, ◌∙◌, append-nil, append_assoc, arith}
use Rattle.std.specs.Prelude.{nat_lt}
use Rattle.std.specs.Char.{is_ascii_digit}
use Rattle.std.specs.List.{list_all, before_first, after_first}
use Rattle.std.proofs.lemmas.Bool.Decides.{nat_tests}
use Rattle.std.proofs.lemmas.List.{length-append}
use Rattle.nc_number.specs.Literals.{is_literal, is_sign, behind_sign, is_point, whole_part, fraction_part, significant, has_too_many_digits}
use Rattle.nc_number.proofs.Bools.{both}
use Rattle.line_text.specs.Values.{digits_len, fraction_len, sign_len, unsigned_len, number_front, has_long_front}
use Rattle.tape_relation.specs.Numbers.{BeginsLong}
use Rattle.tape_relation.proofs.LiteralParts.{point_no_digit, Parts, parts_digits, parts_point, Split, split, significant_more, written, literal_read, many_read, many_found}

-- the digits that a text begins with
abbrev digits_of : List ℕ → List ℕ
digits_of text = take (digits_len text) text

-- what stands after the digits that a text begins with
abbrev behind_digits : List ℕ → List ℕ
behind_digits text = drop (digits_len text) text

-- The next five are on the digits that a text begins with: a digit more in front, another byte, and
-- digits alone.
digit_on : (b : ℕ) (text : List ℕ) → is_ascii_digit b ≡ true → (digits_of (b ∷ text) ≡ b ∷ digits_of text) × (behind_digits (b ∷ text) ≡ behind_digits text)
digit_on b text is = let one : 1 + digits_len text ≡ suc (digits_len text) = omega arith in (rw (is, one) refl, rw (is, one) refl)

digit_stops : (b : ℕ) (text : List ℕ) → is_ascii_digit b ≡ false → (digits_of (b ∷ text) ≡ []) × (behind_digits (b ∷ text) ≡ b ∷ text)
digit_stops b text is = (rw is refl, rw is refl)

digits_all : (text : List ℕ) → list_all is_ascii_digit (digits_of text) ≡ true
digits_all [] = refl
digits_all (b ∷ text) = go (is_ascii_digit b) refl (digits_all text)
  where
    go : (t : Bool) → is_ascii_digit b ≡ t → list_all is_ascii_digit (digits_of text) ≡ true → list_all is_ascii_digit (digits_of (b ∷ text)) ≡ true
    go true e later = ap (list_all is_ascii_digit) (digit_on b text e).0 ∙ rw e later
    go false e later = ap (list_all is_ascii_digit) (digit_stops b text e).0

digits_front : (digits text : List ℕ) → list_all is_ascii_digit digits ≡ true → (digits_of (digits ++ text) ≡ digits ++ digits_of text) × (behind_digits (digits ++ text) ≡ behind_digits text)
digits_front [] text all = (refl, refl)
digits_front (b ∷ digits) text all =
    let p = both (is_ascii_digit b) (list_all is_ascii_digit digits) all in
    let later = digits_front digits text p.1 in
    let here = digit_on b (digits ++ text) p.0 in (here.0 ∙ ap (λ (bs : List ℕ). b ∷ bs) later.0, here.1 ∙ later.1)

only_digits : (digits : List ℕ) → list_all is_ascii_digit digits ≡ true → (digits_of digits ≡ digits) × (behind_digits digits ≡ [])
only_digits digits all =
    let p = digits_front digits [] all in
    let none = append-nil digits in (sym (ap digits_of none) ∙ p.0 ∙ none, sym (ap behind_digits none) ∙ p.1)

-- the point that a text begins with and the digits after it, or nothing
abbrev point_part : List ℕ → List ℕ
point_part [] = []
point_part (b ∷ text) = cond (b == 46) (b ∷ digits_of text) []

-- the digits after the point that a text begins with
abbrev fraction_of : List ℕ → List ℕ
fraction_of [] = []
fraction_of (b ∷ text) = cond (b == 46) (digits_of text) []

-- The next two: the front of a text taken in two parts, and a point with its digits taken.
take_both : (m n : ℕ) (text : List ℕ) → take (m + n) text ≡ take m text ++ take n (drop m text)
take_both zero n text = let none : zero + n ≡ n = omega arith in ap (λ (k : ℕ). take k text) none
take_both (suc m) n [] = let more : suc m + n ≡ suc (m + n) = omega arith in ap (λ (k : ℕ). take k []) more ∙ sym (nothing n)
  where
    nothing : (k : ℕ) → ◌≡◌ {A = List ℕ} ([] ++ take k []) []
    nothing zero = refl
    nothing (suc k) = refl
take_both (suc m) n (b ∷ text) = let more : suc m + n ≡ suc (m + n) = omega arith in ap (λ (k : ℕ). take k (b ∷ text)) more ∙ ap (λ (bs : List ℕ). b ∷ bs) (take_both m n text)

point_taken : (text : List ℕ) → take (fraction_len text) text ≡ point_part text
point_taken [] = refl
point_taken (b ∷ text) = go (b == 46) refl
  where
    go : (t : Bool) → (b == 46) ≡ t → take (fraction_len (b ∷ text)) (b ∷ text) ≡ point_part (b ∷ text)
    go true e = let one : 1 + digits_len text ≡ suc (digits_len text) = omega arith in rw e (ap (λ (k : ℕ). take k (b ∷ text)) one)
    go false e = rw e refl

-- the longest number without a sign that a text begins with
abbrev unsigned_of : List ℕ → List ℕ
unsigned_of text = take (unsigned_len text) text

-- The next two: that number is digits, a point and digits, and its parts are these.
unsigned_parts : (text : List ℕ) → unsigned_of text ≡ digits_of text ++ point_part (behind_digits text)
unsigned_parts text = take_both (digits_len text) (fraction_len (behind_digits text)) text ∙ ap (λ (bs : List ℕ). digits_of text ++ bs) (point_taken (behind_digits text))

parts_of : (text : List ℕ) → Parts (digits_of text ++ point_part (behind_digits text)) (digits_of text) (fraction_of (behind_digits text))
parts_of text = go (behind_digits text)
  where
    go : (behind : List ℕ) → Parts (digits_of text ++ point_part behind) (digits_of text) (fraction_of behind)
    go [] = let P : List ℕ → Type 0 = λ bs. Parts bs (digits_of text) [] in subst P (sym (append-nil (digits_of text))) (parts_digits (digits_of text) (digits_all text))
    go (b ∷ behind) = at (b == 46) refl
      where
        at : (t : Bool) → (b == 46) ≡ t → Parts (digits_of text ++ cond t (b ∷ digits_of behind) []) (digits_of text) (cond t (digits_of behind) [])
        at true e = parts_point b (digits_of text) (digits_of behind) e (digits_all text)
        at false e = let P : List ℕ → Type 0 = λ bs. Parts bs (digits_of text) [] in subst P (sym (append-nil (digits_of text))) (parts_digits (digits_of text) (digits_all text))

-- whether whole digits and fraction digits make a literal
abbrev lit : List ℕ → List ℕ → Bool
lit whole fraction = (list_all is_ascii_digit whole && list_all is_ascii_digit fraction) && nat_lt 0 (length whole + length fraction)

-- whether digits are too many: more than 8 whole ones, zeros in front not counted, or more than 6
-- of the fraction
abbrev big : List ℕ → List ℕ → Bool
big whole fraction = nat_lt 8 (length (significant whole)) || nat_lt 6 (length fraction)

-- The next two: with more digits it is still a literal, and still too long.
some_more : (whole fraction w f : List ℕ) → length whole ≤ length w → length fraction ≤ length f → list_all is_ascii_digit w ≡ true → list_all is_ascii_digit f ≡ true → lit whole fraction ≡ true → lit w f ≡ true
some_more whole fraction w f p q dw df is =
    let some : nat_lt 0 (length whole + length fraction) ≡ true = (both (list_all is_ascii_digit whole && list_all is_ascii_digit fraction) (nat_lt 0 (length whole + length fraction)) is).1 in
    let more : nat_lt 0 (length w + length f) ≡ true = grown (length whole + length fraction) (length w + length f) (omega arith) some in
    rw (dw, df, more) refl
  where
    grown : (m n : ℕ) → m ≤ n → nat_lt 0 m ≡ true → nat_lt 0 n ≡ true
    grown m n le e = grind (arith, nat_tests)

big_more : (whole fraction w f : List ℕ) → length (significant whole) ≤ length (significant w) → length fraction ≤ length f → big whole fraction ≡ true → big w f ≡ true
big_more whole fraction w f p q is = go (nat_lt 8 (length (significant whole))) refl (nat_lt 6 (length fraction)) refl is
  where
    grown : (k m n : ℕ) → m ≤ n → nat_lt k m ≡ true → nat_lt k n ≡ true
    grown k m n le e = grind (arith, nat_tests)

    right : (a b : Bool) → b ≡ true → (a || b) ≡ true
    right true b e = refl
    right false b e = e

    go : (a : Bool) → nat_lt 8 (length (significant whole)) ≡ a → (b : Bool) → nat_lt 6 (length fraction) ≡ b → (a || b) ≡ true → big w f ≡ true
    go true x b y h = rw (grown 8 (length (significant whole)) (length (significant w)) p x) refl
    go false x true y h = right (nat_lt 8 (length (significant w))) (nat_lt 6 (length f)) (grown 6 (length fraction) (length f) q y)
    go false x false y h = absurd cc

-- the longest number that a text begins with has at least the digits of a number at its front
abbrev IsGrown : List ℕ → List ℕ → Type 0
IsGrown number text = (length (before_first is_point number) ≤ length (digits_of text)) × ((length (significant (before_first is_point number)) ≤ length (significant (digits_of text))) × (length (after_first is_point number) ≤ length (fraction_of (behind_digits text))))

-- The next three: the longest number has all digits of any number at the front, so it has too many
-- if that one has.
fraction_digits : (text : List ℕ) → list_all is_ascii_digit (fraction_of text) ≡ true
fraction_digits [] = refl
fraction_digits (b ∷ text) = go (b == 46)
  where
    go : (t : Bool) → list_all is_ascii_digit (cond t (digits_of text) []) ≡ true
    go true = digits_all text
    go false = refl

grows : (number more : List ℕ) → list_all is_ascii_digit (before_first is_point number) ≡ true → list_all is_ascii_digit (after_first is_point number) ≡ true → IsGrown number (number ++ more)
grows number more dw df = go (split number)
  where
    whole : List ℕ
    whole = before_first is_point number

    go : Split number → IsGrown number (number ++ more)
    go (inl (w, f)) =
        let P : List ℕ → Type 0 = λ bs. list_all is_ascii_digit bs ≡ true in
        let digits : list_all is_ascii_digit number ≡ true = subst P w dw in
        let front = (digits_front number more digits).0 in
        let long : length (before_first is_point number) ≤ length (digits_of (number ++ more)) = rw (front, w) (omega (arith, length-append number (digits_of more))) in
        let deep : length (significant (before_first is_point number)) ≤ length (significant (digits_of (number ++ more))) = rw (front, w) (significant_more number (digits_of more)) in
        (long, (deep, rw f (omega arith)))
    go (inr (b, is, all)) =
        let w : List ℕ = before_first is_point number in
        let f : List ℕ = after_first is_point number in
        let text : number ++ more ≡ w ++ (b ∷ (f ++ more)) = ap (λ (bs : List ℕ). bs ++ more) all ∙ append_assoc w (b ∷ f) more in
        let front = digits_front w (b ∷ (f ++ more)) dw in
        let stop = digit_stops b (f ++ more) (point_no_digit b is) in
        let digits : digits_of (number ++ more) ≡ w = ap digits_of text ∙ front.0 ∙ ap (λ (bs : List ℕ). w ++ bs) stop.0 ∙ append-nil w in
        let behind : behind_digits (number ++ more) ≡ b ∷ (f ++ more) = ap behind_digits text ∙ front.1 ∙ stop.1 in
        let tail : fraction_of (behind_digits (number ++ more)) ≡ f ++ digits_of more = ap fraction_of behind ∙ rw is (digits_front f more df).0 in
        (rw digits (omega arith), (rw digits (omega arith), rw tail (omega (arith, length-append f (digits_of more)))))

unsigned_long : (number more : List ℕ) → lit (before_first is_point number) (after_first is_point number) ≡ true → big (before_first is_point number) (after_first is_point number) ≡ true
    → (lit (before_first is_point (unsigned_of (number ++ more))) (after_first is_point (unsigned_of (number ++ more))) && big (before_first is_point (unsigned_of (number ++ more))) (after_first is_point (unsigned_of (number ++ more)))) ≡ true
unsigned_long number more is over =
    let text : List ℕ = number ++ more in
    let w : List ℕ = before_first is_point number in
    let f : List ℕ = after_first is_point number in
    let d = both (list_all is_ascii_digit w) (list_all is_ascii_digit f) (both (list_all is_ascii_digit w && list_all is_ascii_digit f) (nat_lt 0 (length w + length f)) is).0 in
    let g = grows number more d.0 d.1 in
    let p = parts_of text in
    let whole : before_first is_point (unsigned_of text) ≡ digits_of text = ap (before_first is_point) (unsigned_parts text) ∙ p.0 in
    let fraction : after_first is_point (unsigned_of text) ≡ fraction_of (behind_digits text) = ap (after_first is_point) (unsigned_parts text) ∙ p.1 in
    let good : lit (digits_of text) (fraction_of (behind_digits text)) ≡ true = some_more w f (digits_of text) (fraction_of (behind_digits text)) g.0 g.1.1 (digits_all text) (fraction_digits (behind_digits text)) is in
    let long : big (digits_of text) (fraction_of (behind_digits text)) ≡ true = big_more w f (digits_of text) (fraction_of (behind_digits text)) g.1.0 g.1.1 over in
    ap (λ (bs : List ℕ). lit bs (after_first is_point (unsigned_of text)) && big bs (after_first is_point (unsigned_of text))) whole
    ∙ ap (λ (bs : List ℕ). lit (digits_of text) bs && big (digits_of text) bs) fraction ∙ rw (good, long) refl

-- With a sign, or none.

-- The next four: a text with a sign or none, and the longest number that it begins with.
cut_at : (n : ℕ) (text : List ℕ) → text ≡ take n text ++ drop n text
cut_at zero text = refl
cut_at (suc n) [] = refl
cut_at (suc n) (b ∷ text) = ap (λ (bs : List ℕ). b ∷ bs) (cut_at n text)

no_sign_taken : (n b : ℕ) (text : List ℕ) → is_sign b ≡ false → behind_sign (take n (b ∷ text)) ≡ take n (b ∷ text)
no_sign_taken zero b text off = refl
no_sign_taken (suc n) b text off = rw off refl

front_unsigned : (text : List ℕ) → behind_sign (number_front text) ≡ unsigned_of (behind_sign text)
front_unsigned [] = refl
front_unsigned (b ∷ text) = go (is_sign b) refl
  where
    go : (t : Bool) → is_sign b ≡ t → behind_sign (number_front (b ∷ text)) ≡ unsigned_of (behind_sign (b ∷ text))
    go true e = let one : 1 + unsigned_len text ≡ suc (unsigned_len text) = omega arith in rw (e, one) (rw e refl)
    go false e = let none : 0 + unsigned_len (b ∷ text) ≡ unsigned_len (b ∷ text) = omega arith in rw e (ap (λ (n : ℕ). behind_sign (take n (b ∷ text))) none ∙ no_sign_taken (unsigned_len (b ∷ text)) b text e)

sign_before : (number rest : List ℕ) → is_literal number ≡ true → behind_sign (number ++ rest) ≡ behind_sign number ++ rest
sign_before [] rest is-lit = absurd cc
sign_before (b ∷ number) rest is-lit = go (is_sign b) refl
  where
    go : (t : Bool) → is_sign b ≡ t → behind_sign ((b ∷ number) ++ rest) ≡ behind_sign (b ∷ number) ++ rest
    go true e = rw e refl
    go false e = rw e refl

-- a text that begins with a literal of too many digits has a long front to the reader
pub front_read : (text : List ℕ) → BeginsLong text → has_long_front text ≡ true
front_read text (number, rest, is, (sign, w, f, number-is, many)) =
    let lit-is : is_literal number ≡ true = literal_read number (sign, w, f, number-is) in
    let over : has_too_many_digits number ≡ true = many_read number sign w f number-is many in
    let u : behind_sign (number_front text) ≡ unsigned_of (behind_sign number ++ rest) = front_unsigned text ∙ ap (λ (bs : List ℕ). unsigned_of (behind_sign bs)) is ∙ ap unsigned_of (sign_before number rest lit-is) in
    ap (λ (bs : List ℕ). lit (before_first is_point bs) (after_first is_point bs) && big (before_first is_point bs) (after_first is_point bs)) u ∙ unsigned_long (behind_sign number) rest lit-is over

-- a text with a long front to the reader begins with a literal of too many digits
pub front_found : (text : List ℕ) → has_long_front text ≡ true → BeginsLong text
front_found text e =
    let n : ℕ = sign_len text + unsigned_len (drop (sign_len text) text) in
    let p = both (is_literal (number_front text)) (has_too_many_digits (number_front text)) e in let w = written (number_front text) p.0 in (take n text, drop n text, cut_at n text, (w.0, whole_part (number_front text), fraction_part (number_front text), w.1, many_found (number_front text) p.1))

-- a literal without a sign is the longest number that it begins with
whole_unsigned : (text : List ℕ) → lit (before_first is_point text) (after_first is_point text) ≡ true → unsigned_of text ≡ text
whole_unsigned text is = go (split text)
  where
    digits : (list_all is_ascii_digit (before_first is_point text) ≡ true) × (list_all is_ascii_digit (after_first is_point text) ≡ true)
    digits = both (list_all is_ascii_digit (before_first is_point text)) (list_all is_ascii_digit (after_first is_point text)) (both (list_all is_ascii_digit (before_first is_point text) && list_all is_ascii_digit (after_first is_point text)) (nat_lt 0 (length (before_first is_point text) + length (after_first is_point text))) is).0

    go : Split text → unsigned_of text ≡ text
    go (inl (w, f)) =
        let P : List ℕ → Type 0 = λ bs. list_all is_ascii_digit bs ≡ true in
        let p = only_digits text (subst P w digits.0) in
        unsigned_parts text ∙ ap (λ (bs : List ℕ). bs ++ point_part (behind_digits text)) p.0 ∙ ap (λ (bs : List ℕ). text ++ point_part bs) p.1 ∙ append-nil text
    go (inr (b, point, all)) =
        let w : List ℕ = before_first is_point text in
        let f : List ℕ = after_first is_point text in
        let front = digits_front w (b ∷ f) digits.0 in
        let stop = digit_stops b f (point_no_digit b point) in
        let first : digits_of text ≡ w = ap digits_of all ∙ front.0 ∙ ap (λ (bs : List ℕ). w ++ bs) stop.0 ∙ append-nil w in
        let behind : behind_digits text ≡ b ∷ f = ap behind_digits all ∙ front.1 ∙ stop.1 in
        let tail : point_part (behind_digits text) ≡ b ∷ f = ap point_part behind ∙ rw point (ap (λ (bs : List ℕ). b ∷ bs) (only_digits f digits.1).0) in
        unsigned_parts text ∙ ap (λ (bs : List ℕ). bs ++ point_part (behind_digits text)) first ∙ ap (λ (bs : List ℕ). w ++ bs) tail ∙ sym all

-- a literal that begins with one of too many digits has too many itself
pub literal_long : (text : List ℕ) → is_literal text ≡ true → BeginsLong text → has_too_many_digits text ≡ true
literal_long text lit-text (number, rest, is, (sign, w, f, number-is, many)) =
    let lit-is : is_literal number ≡ true = literal_read number (sign, w, f, number-is) in
    let over : has_too_many_digits number ≡ true = many_read number sign w f number-is many in
    let whole : unsigned_of (behind_sign number ++ rest) ≡ behind_sign text = ap unsigned_of (sym (sign_before number rest lit-is) ∙ sym (ap behind_sign is)) ∙ whole_unsigned (behind_sign text) lit-text in
    let u : List ℕ = unsigned_of (behind_sign number ++ rest) in
    let p = both (lit (before_first is_point u) (after_first is_point u)) (big (before_first is_point u) (after_first is_point u)) (unsigned_long (behind_sign number) rest lit-is over) in
    sym (ap (λ (bs : List ℕ). big (before_first is_point bs) (after_first is_point bs)) whole) ∙ p.1
