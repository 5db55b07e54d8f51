-- Digits without the zeros that they end with, one digit at a time: for the proof of `trimmed`
-- (src/printing.rt).
use Rattle.std.proofs.Common.{◌≡◌, ◌≢◌, ◌&&◌, ℕ, true, false, List, [], ◌∷◌, ◌++◌, refl, ◌∙◌, sym}
use Rattle.std.specs.List.{list_all}
use Rattle.std.proofs.lemmas.List.Folds.{list_all-append}
use Rattle.std.proofs.lemmas.Bool.{ne_eqb, and_right, and_left}
use Rattle.std.proofs.Math.Bool.{and-true}
use Rattle.nc_number.specs.Printed.{is_zero_digit, without_trailing_zeros}

-- a zero at the end makes no difference to the digits without the zeros at their end
trim-zero : (xs : List ℕ) → without_trailing_zeros (xs ++ 48 ∷ []) ≡ without_trailing_zeros xs
trim-zero [] = refl
trim-zero (x ∷ xs) =
    rw (list_all-append is_zero_digit xs (48 ∷ []), and-true (list_all is_zero_digit xs), trim-zero xs) refl

-- digits that end with another digit than 0 stay as they are
trim-digit : (xs : List ℕ) (d : ℕ) → d ≢ 48 → without_trailing_zeros (xs ++ d ∷ []) ≡ xs ++ d ∷ []
trim-digit [] d other = rw (ne_eqb d 48 other) refl
trim-digit (x ∷ xs) d other =
    let last : (is_zero_digit d && true) ≡ false = and_left _ _ (ne_eqb d 48 other) in
    let digits : list_all is_zero_digit (xs ++ d ∷ []) ≡ false =
    list_all-append is_zero_digit xs (d ∷ []) ∙ and_right (list_all is_zero_digit xs) _ last in
    let all : (is_zero_digit x && list_all is_zero_digit (xs ++ d ∷ [])) ≡ false = and_right (is_zero_digit x) _ digits in
    rw (all, trim-digit xs d other) refl

-- one step of the code's trim: a last zero is left out
pub trims_zero : (xs front : List ℕ) (d : ℕ) → xs ≡ front ++ d ∷ [] → d ≡ 48 → without_trailing_zeros front ≡ without_trailing_zeros xs
trims_zero xs front d is zero_digit = rw (is, zero_digit) (sym (trim-zero front))

-- the last step of the code's trim: a last digit that isn't 0 stays
pub keeps_digit : (xs front : List ℕ) (d : ℕ) → xs ≡ front ++ d ∷ [] → d ≢ 48 → xs ≡ without_trailing_zeros xs
keeps_digit xs front d is other = rw is (sym (trim-digit front d other))
