-- How values and lengths are printed, as bytes: 45 is the minus, 46 the point, 48 the digit 0.
-- src/printing.rt prints so (`value_text` is its `text`), and the laws of src/laws.rt read it back.
use Rattle.std.specs.Prelude.{ℕ, zero, suc, ◌+◌, ◌/◌, ◌%◌, Bool, ◌==◌, ◌&&◌, if◌then◌else◌, List, [], ◌∷◌, ◌++◌, ℤ, unsigned_abs, decimal}
use Rattle.std.specs.Fmt.{sign_text}
use Rattle.std.specs.Int.{is_negative}
use Rattle.std.specs.List.{list_all}

-- the last k decimal digits of n, with their leading zeros
abbrev pub last_digits : ℕ → ℕ → List ℕ
last_digits zero n = []
last_digits (suc k) n = last_digits k (n / 10) ++ (48 + n % 10) ∷ []

-- the byte is the digit 0, which is 48
abbrev pub is_zero_digit : ℕ → Bool
is_zero_digit d = d == 48

-- the digits without the zeros that they end with
abbrev pub without_trailing_zeros : List ℕ → List ℕ
without_trailing_zeros [] = []
without_trailing_zeros (d ∷ ds) =
    if is_zero_digit d && list_all is_zero_digit ds then [] else d ∷ without_trailing_zeros ds

-- a fraction of so many millionths: a point and its digits, and nothing where it is 0
abbrev pub fraction_text : ℕ → List ℕ
fraction_text millionths =
    if millionths == 0 then [] else 46 ∷ without_trailing_zeros (last_digits 6 millionths)

-- a value: `-` below 0, the whole part, and the fraction if it is not 0
abbrev pub value_text : ℤ → List ℕ
value_text micro =
    sign_text (is_negative micro)
    ++ decimal (unsigned_abs micro / 1000000)
    ++ fraction_text (unsigned_abs micro % 1000000)

-- a length in 0.001 mm: `-` below 0, the whole part, and always three decimals
abbrev pub length_text : ℤ → List ℕ
length_text increments =
    sign_text (is_negative increments)
    ++ decimal (unsigned_abs increments / 1000)
    ++ 46 ∷ last_digits 3 (unsigned_abs increments % 1000)
