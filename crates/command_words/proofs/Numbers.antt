-- Numbers on the command line: the value of a numeral of at most seven digits, and whether it lies
-- between its limits. For the proofs of `read_number` (src/number.rt) and `range_of`
-- (src/making.rt).
use Rattle.std.proofs.Common.{◌≡◌, IfSome, ℕ, ◌^◌, ◌<◌, ◌≤◌, true, false, ◌&&◌, List, [], ◌∷◌, length, Result, Ok, Some, None, refl, sym, ap, ◌∙◌, arith, inl, inr}
use Rattle.std.proofs.lemmas.Bool.{cases_Bool}
use Rattle.std.specs.Char.{is_ascii_digit}
use Rattle.std.specs.List.{list_all}
use Rattle.std.specs.Prelude.{nat_le}
use Rattle.std.specs.Str.{all_ascii_digits}
use Rattle.std.specs.Str.Parse.{ParsesUnsigned, digits_value}
use Rattle.std.proofs.lemmas.Bool.{and_parts, le-leb, leb-true}
use Rattle.std.proofs.lemmas.Bool.Decides.{leb_tells}
use Rattle.std.proofs.lemmas.Str.Parse.{IsNumeralModel, digits_value_short, numerals_by_value, parse_gives, tells_all_ascii_digits}
use Rattle.command_words.specs.Number.{value_between, is_numeral, number_of}

-- std's test of decimal digits and that of the specs agree
digits_alone : (text : List ℕ) → all_ascii_digits text ≡ list_all is_ascii_digit text
digits_alone [] = refl
digits_alone (d ∷ ds) = ap (λ b. is_ascii_digit d && b) (digits_alone ds)

-- runs of decimal digits and their values are numerals as std has them
own : IsNumeralModel (λ ds. all_ascii_digits ds ≡ true) (digits_value 10)
own = numerals_by_value (λ ds. all_ascii_digits ds ≡ true) tells_all_ascii_digits

-- parsing a numeral gives its value
pub numeral_parses : {E : Type 0} → (text : List ℕ) (r : Result ℕ E) → ParsesUnsigned 32 10 text r → is_numeral text ≡ true → r ≡ Ok (digits_value 10 text)
numeral_parses text r parses numeral =
    let first = and_parts (nat_le 1 (length text)) (nat_le (length text) 7 && list_all is_ascii_digit text) numeral in
    let second = and_parts (nat_le (length text) 7) (list_all is_ascii_digit text) first.1 in
    let some : 1 ≤ length text = leb-true 1 (length text) first.0 in
    let few : length text ≤ 7 = leb-true (length text) 7 second.0 in
    let digits : all_ascii_digits text ≡ true = rw (digits_alone text) second.1 in
    let small : digits_value 10 text < 10 ^ 7 = digits_value_short own text 7 digits few in
    parse_gives own 32 text r parses digits (omega arith) (omega (arith, small))

-- a number above another is not at most that
not_le : (a b : ℕ) → b < a → nat_le a b ≡ false
not_le a b less = elim (leb_tells a b) [ inl within ↦ absurd (omega (arith, within.1)) | inr beyond ↦ beyond.0 ]

-- what is no numeral is no number
pub no_numeral : (low high : ℕ) (text : List ℕ) → is_numeral text ≡ false → None ≡ number_of low high text
unfolding number_of
no_numeral low high text e = rw e refl

-- the number that a numeral gives is its value, if that lies between the limits
numeral_gives : (low high : ℕ) (text : List ℕ) → is_numeral text ≡ true → number_of low high text ≡ value_between low high (digits_value 10 text)
unfolding number_of
numeral_gives low high text e = rw e refl

-- a numeral with a value between the limits is that number
pub number_in : (low high : ℕ) (text : List ℕ) (value : ℕ) → is_numeral text ≡ true → value ≡ digits_value 10 text → low ≤ value → value ≤ high
    → Some value ≡ number_of low high text
number_in low high text value numeral is_value above below =
    let over : nat_le low value ≡ true = le-leb low value above in
    let under : nat_le value high ≡ true = le-leb value high below in
    let here : value_between low high value ≡ Some value = rw (over, under) refl in
    sym (numeral_gives low high text numeral ∙ ap (value_between low high) (sym is_value) ∙ here)

-- a numeral below the limits is no number
pub number_low : (low high : ℕ) (text : List ℕ) (value : ℕ) → is_numeral text ≡ true → value ≡ digits_value 10 text → value < low
    → None ≡ number_of low high text
number_low low high text value numeral is_value under =
    let less : nat_le low value ≡ false = not_le low value under in
    let here : value_between low high value ≡ None = rw less refl in
    sym (numeral_gives low high text numeral ∙ ap (value_between low high) (sym is_value) ∙ here)

-- a numeral above the limits is no number
pub number_high : (low high : ℕ) (text : List ℕ) (value : ℕ) → is_numeral text ≡ true → value ≡ digits_value 10 text → low ≤ value → high < value
    → None ≡ number_of low high text
number_high low high text value numeral is_value above over =
    let more : nat_le low value ≡ true = le-leb low value above in
    let beyond : nat_le value high ≡ false = not_le value high over in
    let here : value_between low high value ≡ None = rw (more, beyond) refl in
    sym (numeral_gives low high text numeral ∙ ap (value_between low high) (sym is_value) ∙ here)

-- a value between limits lies within the greatest
between_within : (low high value : ℕ) → IfSome (value_between low high value) (λ n. n ≤ high)
between_within low high value = elim (leb_tells low value) [
  | inl above ↦ elim (leb_tells value high) [
    | inl within ↦ rw (above.0, within.0) within.1
    | inr beyond ↦ rw (above.0, beyond.0) tt
  ]
  | inr under ↦ rw under.0 tt
]

-- a number that is read lies within the greatest
pub number_within : (low high : ℕ) (text : List ℕ) → IfSome (number_of low high text) (λ n. n ≤ high)
unfolding number_of
number_within low high text = elim (cases_Bool (is_numeral text)) [
  | inl numeral ↦ rw numeral (between_within low high (digits_value 10 text))
  | inr none ↦ rw none tt
]
