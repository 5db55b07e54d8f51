-- The last digits of a number, and what is left of them without the zeros at their end: for the
-- laws on printing (ReadsBack.antt).
use Rattle.std.proofs.Common.{◌≡◌, ◌&&◌, ◌<◌, ◌≤◌, ◌+◌, ◌-◌, ◌*◌, ◌/◌, ◌%◌, ◌^◌, ℕ, zero, suc, Bool, true, false, cond, List, [], ◌∷◌, length, refl, ◌∙◌, arith, length-append}
use Rattle.std.specs.List.{list_all}
use Rattle.std.specs.Char.{digit_value, is_ascii_digit}
use Rattle.std.specs.Str.Parse.{digits_value, digits_value_after}
use Rattle.std.proofs.lemmas.Bool.{and_parts, and_from, le-leb, eqb-true}
use Rattle.std.proofs.lemmas.Int.Digits.{digits_value_push}
use Rattle.std.proofs.lemmas.List.Folds.{list_all-append}
use Rattle.std.proofs.Math.Nat.{pow-succ'}
use Rattle.nc_number.specs.Literals.{all_digits}
use Rattle.nc_number.specs.Printed.{last_digits, is_zero_digit, without_trailing_zeros}
use Rattle.nc_number.proofs.DecimalDigits.{digit_value_is}

-- the last k digits are k bytes
pub length-last : (k n : ℕ) → length (last_digits k n) ≡ k
length-last zero n = refl
length-last (suc k) n =
    length-append (last_digits k (n / 10)) ((48 + n % 10) ∷ []) ∙ rw (length-last k (n / 10)) (omega arith)

-- 48 and a number below 10 is the byte of a digit
last_byte : (n : ℕ) → is_ascii_digit (48 + n % 10) ≡ true
last_byte n = and_from _ _ (le-leb 48 (48 + n % 10) (omega arith)) (le-leb (48 + n % 10) 57 (omega arith))

-- the last k digits are digits
pub all_digits-last : (k n : ℕ) → all_digits (last_digits k n) ≡ true
all_digits-last zero n = refl
all_digits-last (suc k) n =
    list_all-append is_ascii_digit (last_digits k (n / 10)) ((48 + n % 10) ∷ [])
    ∙ and_from _ _ (all_digits-last k (n / 10)) (and_from _ _ (last_byte n) refl)

-- the last k digits of a number below 10 ^ k write that number
pub value-last : (k n : ℕ) → n < 10 ^ k → digits_value 10 (last_digits k n) ≡ n
value-last zero n small = omega arith
value-last (suc k) n small =
    let power : 10 ^ suc k ≡ 10 * 10 ^ k = pow-succ' 10 k in
    let front = value-last k (n / 10) (omega arith) in
    let weight = digit_value_is (48 + n % 10) (omega arith) (omega arith) in
    digits_value_push 10 (last_digits k (n / 10)) (48 + n % 10) ∙ rw (front, weight) (omega arith)

-- ---- without the zeros at the end

-- without the zeros at the end there are no more digits than before
pub length-trim-le : (ds : List ℕ) → length (without_trailing_zeros ds) ≤ length ds
length-trim-le [] = omega arith
length-trim-le (d ∷ ds) = go (is_zero_digit d && list_all is_zero_digit ds) (length-trim-le ds)
  where
    go : (test : Bool) → length (without_trailing_zeros ds) ≤ length ds → length (cond test [] (d ∷ without_trailing_zeros ds)) ≤ length (d ∷ ds)
    go true shorter = omega arith
    go false shorter = omega arith

-- digits without the zeros at the end are digits
pub all_digits-trim : (ds : List ℕ) → all_digits ds ≡ true → all_digits (without_trailing_zeros ds) ≡ true
all_digits-trim [] digits = refl
all_digits-trim (d ∷ ds) digits =
    go (is_zero_digit d && list_all is_zero_digit ds) (and_parts _ _ digits).0 (all_digits-trim ds (and_parts _ _ digits).1)
  where
    go : (test : Bool) → is_ascii_digit d ≡ true → all_digits (without_trailing_zeros ds) ≡ true → all_digits (cond test [] (d ∷ without_trailing_zeros ds)) ≡ true
    go true digit rest = refl
    go false digit rest = and_from _ _ digit rest

-- after a number n, zeros alone write n times a power of ten
pub value_of_zeros : (ds : List ℕ) (n : ℕ) → list_all is_zero_digit ds ≡ true → digits_value_after 10 n ds ≡ n * 10 ^ length ds
value_of_zeros [] n zeros = omega arith
value_of_zeros (d ∷ ds) n zeros =
    let parts = and_parts _ _ zeros in
    let zero_digit : d ≡ 48 = eqb-true d 48 parts.0 in
    let power : 10 ^ suc (length ds) ≡ 10 * 10 ^ length ds = pow-succ' 10 (length ds) in
    let next : n * 10 + digit_value d ≡ n * 10 = rw zero_digit (omega arith) in
    rw (next, value_of_zeros ds (n * 10) parts.1, power) (omega arith)

-- each zero left out is a factor of ten
pub value-trim : (ds : List ℕ) (n : ℕ) → digits_value_after 10 n ds ≡ digits_value_after 10 n (without_trailing_zeros ds) * 10 ^ (length ds - length (without_trailing_zeros ds))
value-trim [] n = omega arith
value-trim (d ∷ ds) n = go (is_zero_digit d && list_all is_zero_digit ds) refl (value-trim ds (n * 10 + digit_value d))
  where
    go : (test : Bool) → (is_zero_digit d && list_all is_zero_digit ds) ≡ test
        → digits_value_after 10 (n * 10 + digit_value d) ds ≡ digits_value_after 10 (n * 10 + digit_value d) (without_trailing_zeros ds) * 10 ^ (length ds - length (without_trailing_zeros ds))
        → digits_value_after 10 n (d ∷ ds) ≡ digits_value_after 10 n (cond test [] (d ∷ without_trailing_zeros ds)) * 10 ^ (length (d ∷ ds) - length (cond test [] (d ∷ without_trailing_zeros ds)))
    go true is rest = (let all : suc (length ds) - 0 ≡ suc (length ds) = omega arith in value_of_zeros (d ∷ ds) n is ∙ rw all refl)
    go false is rest = let left : suc (length ds) - suc (length (without_trailing_zeros ds)) ≡ length ds - length (without_trailing_zeros ds) = omega arith in rw left rest
