-- The fields of a line, and the numbers and paths in them. Bytes: 32 is the blank, 48 is 0.
use Rattle.std.specs.Prelude.{ℕ, ◌+◌, ◌-◌, ◌*◌, Bool, not, ◌&&◌, ◌==◌, nat_lt, nat_le, slice_index, List, length, map, fold, filter, Option, Some, None, codes, if◌then◌else◌}
use Rattle.std.specs.List.{slice_split, list_all}
use Rattle.std.specs.Str.{bytes_eq}
use Rattle.std.specs.Char.{is_ascii_digit}
use Rattle.nc_number.specs.declared.path.Path.{Path}
use Rattle.nc_number.specs.declared.path.Path.TheVariants.{One, Two}
use denote.Ref.{Bor}

-- The texts that references point to.
abbrev pub texts : List (Bor (List ℕ)) → List (List ℕ)
texts fields = map (λ field. field.now) fields

-- The parts of a line between blanks that have a byte.
abbrev pub fields_of : List ℕ → List (List ℕ)
fields_of line = filter (λ field. not (length field == 0)) (slice_split (λ b. b == 32) line)

-- The number that the text spells, if it is decimal digits; of other bytes it says nothing of use.
abbrev pub value_of : List ℕ → ℕ
value_of digits = fold (λ n digit. n * 10 + (digit - 48)) 0 digits

-- The text has a 0 before another byte.
abbrev pub begins_with_zero : List ℕ → Bool
begins_with_zero text = nat_lt 1 (length text) && slice_index text 0 == 48

-- The text is decimal digits, with no 0 before others.
abbrev pub is_number : List ℕ → Bool
is_number text = (not (length text == 0) && list_all is_ascii_digit text) && not (begins_with_zero text)

-- The number that the text spells, if it is one from low to high.
unfoldable pub number_in : ℕ → ℕ → List ℕ → Option ℕ
number_in low high text =
    if (is_number text && nat_le low (value_of text)) && nat_le (value_of text) high then Some (value_of text) else None

-- The path that the text names: the text is `1` or `2`, or it names none.
unfoldable pub path_of : List ℕ → Option Path
path_of text = if bytes_eq text (codes "1") then Some One else (if bytes_eq text (codes "2") then Some Two else None)
