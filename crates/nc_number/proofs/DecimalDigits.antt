-- Runs of decimal digits, and the numbers that they write: for the loop of `number`
-- (src/literal.rt) and the laws on literals.
use Rattle.std.proofs.Common.{◌≡◌, ◌==◌, ℕ, ◌+◌, ◌-◌, ◌*◌, ◌^◌, ◌<◌, ◌≤◌, true, false, not, List, [], ◌∷◌, length, get_or, take, drop, refl, ap, length-drop, ◌∙◌, sym, subst, inl, inr, arith, rules, suc}
use Rattle.std.specs.List.{position_or_len}
use Rattle.std.specs.Char.{digit_value, is_ascii_digit}
use Rattle.std.specs.Str.Parse.{digits_value}
use Rattle.std.proofs.lemmas.Int.Digits.{digits_value_more, digits_value-lt}
use Rattle.std.proofs.lemmas.Str.Parse.{IsNumeralModel, numerals_by_value, digit_at, digits_value-take-le}
use Rattle.std.proofs.Math.Nat.{pow-le-pow_right, one-le-pow, mul-lt-mul_of_pos_right}
use Rattle.std.proofs.lemmas.Nat.{pow-add}
use Rattle.std.proofs.lemmas.List.Elements.{All-drop}
use Rattle.std.proofs.lemmas.List.Sums.{AllPass-from_list_all, list_all-from_AllPass}
use Rattle.std.proofs.lemmas.Grind.{common_steps}
use Rattle.std.proofs.lemmas.Bool.{cases_eq, ne_eqb}
use Rattle.nc_number.specs.Literals.{all_digits, significant, size_of_parts}

-- runs of digits and what they write are numerals as std has them
pub digits_model : IsNumeralModel (λ ds. all_digits ds ≡ true) (digits_value 10)
digits_model = numerals_by_value _ (search rules)

-- each byte of a run of digits is one from 48 to 57: the characters 0 to 9
pub digit_byte : (ds : List ℕ) (i : ℕ) → all_digits ds ≡ true → i < length ds → (48 ≤ get_or ds i 0) × (get_or ds i 0 ≤ 57)
digit_byte ds i digits within = digit_at ds i (digits_model.to ds digits) within

-- the weight of a digit is its byte less 48
pub digit_value_is : (c : ℕ) → 48 ≤ c → c ≤ 57 → digit_value c ≡ c - 48
digit_value_is c low high = grind (arith, common_steps)

-- one digit more makes ten times the number and that digit
pub value_more : (ds : List ℕ) (i : ℕ) → all_digits ds ≡ true → i < length ds → digits_value 10 (take (i + 1) ds) ≡ digits_value 10 (take i ds) * 10 + (get_or ds i 0 - 48)
value_more ds i digits within =
    let byte = digit_byte ds i digits within in
    let weight = digit_value_is (get_or ds i 0) byte.0 byte.1 in
    digits_value_more 10 ds i within ∙ ap (λ d. digits_value 10 (take i ds) * 10 + d) weight

-- k digits write a number below 10 ^ k
value_below : (ds : List ℕ) → all_digits ds ≡ true → digits_value 10 ds < 10 ^ length ds
value_below ds digits = digits_value-lt 10 ds (digits_model.to ds digits)

-- the first digits of at most k digits write a number below 10 ^ k
pub part_below : (ds : List ℕ) (i k : ℕ) → all_digits ds ≡ true → length ds ≤ k → digits_value 10 (take i ds) < 10 ^ k
part_below ds i k digits short =
    let whole = value_below ds digits in
    let part = digits_value-take-le 10 ds i (omega arith) in
    let ten : 0 < 10 = omega arith in
    let power : 10 ^ length ds ≤ 10 ^ k = pow-le-pow_right ten short in
    omega arith

-- zeros in front write nothing
pub value-significant : (ds : List ℕ) → digits_value 10 (significant ds) ≡ digits_value 10 ds
value-significant [] = refl
value-significant (d ∷ ds) = elim (cases_eq d 48) [
  | inl zero_digit ↦
      (let P : ℕ → Type 0 = λ x. digits_value 10 (significant (x ∷ ds)) ≡ digits_value 10 (x ∷ ds) in
      let first_more : 1 + position_or_len (λ x. not (x == 48)) ds ≡ suc (position_or_len (λ x. not (x == 48)) ds) = omega arith in
      let rest : drop (1 + position_or_len (λ x. not (x == 48)) ds) (48 ∷ ds) ≡ significant ds = ap (λ n. drop n (48 ∷ ds)) first_more in
      subst P (sym zero_digit) (ap (λ xs. digits_value 10 xs) rest ∙ value-significant ds))
  | inr other ↦ (let test : (d == 48) ≡ false = ne_eqb d 48 other in rw test refl)
]

-- digits without some at the front are digits
all_digits-drop : (ds : List ℕ) (k : ℕ) → all_digits ds ≡ true → all_digits (drop k ds) ≡ true
all_digits-drop ds k digits =
    list_all-from_AllPass is_ascii_digit (drop k ds) (All-drop (λ c. is_ascii_digit c ≡ true) k ds (AllPass-from_list_all is_ascii_digit ds digits))

-- digits without the zeros at the front are digits
pub all_digits-significant : (ds : List ℕ) → all_digits ds ≡ true → all_digits (significant ds) ≡ true
all_digits-significant ds digits = all_digits-drop ds (position_or_len (λ d. not (d == 48)) ds) digits

-- what 6 digits after a point write is less than one unit
pub fraction_below : (ds : List ℕ) → all_digits ds ≡ true → length ds ≤ 6 → digits_value 10 ds * 10 ^ (6 - length ds) < 1000000
fraction_below ds digits short =
    let value = value_below ds digits in
    let ten : 0 < 10 = omega arith in
    let positive : 0 < 10 ^ (6 - length ds) = one-le-pow (6 - length ds) 10 ten in
    let sum : length ds + (6 - length ds) ≡ 6 = omega arith in
    let whole : 10 ^ length ds * 10 ^ (6 - length ds) ≡ 1000000 = sym (pow-add 10 (length ds) (6 - length ds)) ∙ ap (λ n. 10 ^ n) sum in
    let scaled : digits_value 10 ds * 10 ^ (6 - length ds) < 10 ^ length ds * 10 ^ (6 - length ds) = mul-lt-mul_of_pos_right value positive in
    omega arith

-- what at most 8 digits before a point and 6 after it write is a value
pub size_below : (whole fraction : List ℕ) → all_digits whole ≡ true → length whole ≤ 8 → all_digits fraction ≡ true → length fraction ≤ 6 → size_of_parts whole fraction ≤ 99999999999999
size_below whole fraction whole_digits whole_short fraction_digits fraction_short =
    let behind = fraction_below fraction fraction_digits fraction_short in
    let value = value_below whole whole_digits in
    let ten : 0 < 10 = omega arith in
    let power : 10 ^ length whole ≤ 10 ^ 8 = pow-le-pow_right ten whole_short in
    omega arith

-- without the zeros at the front there are no more digits than before
pub length-significant-le : (ds : List ℕ) → length (significant ds) ≤ length ds
length-significant-le ds = omega (arith, length-drop (position_or_len (λ d. not (d == 48)) ds) ds)
