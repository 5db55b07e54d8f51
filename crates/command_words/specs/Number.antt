-- Numbers on the command line, such as `14` of `--blocks 14`. The grammar (Listed) and
-- src/number.rt go by this.
use Rattle.std.specs.Prelude.{ℕ, Bool, ◌&&◌, if◌then◌else◌, List, length, nat_le, Option, Some, None}
use Rattle.std.specs.Char.{is_ascii_digit}
use Rattle.std.specs.List.{list_all}
use Rattle.std.specs.Str.Parse.{digits_value}

-- the text is one to seven decimal digits; leading zeros count
abbrev pub is_numeral : List ℕ → Bool
is_numeral text = nat_le 1 (length text) && (nat_le (length text) 7 && list_all is_ascii_digit text)

-- the value, if it lies from low to high
abbrev pub value_between : ℕ → ℕ → ℕ → Option ℕ
value_between low high value = if nat_le low value && nat_le value high then Some value else None

-- the number that the text writes, if it lies from low to high
unfoldable pub number_of : ℕ → ℕ → List ℕ → Option ℕ
number_of low high text = if is_numeral text then value_between low high (digits_value 10 text) else None
