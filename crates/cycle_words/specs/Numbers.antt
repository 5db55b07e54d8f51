-- The numbers that words write out. src/numbers.rt computes them.
use Rattle.std.specs.Prelude.{ℕ, Bool, ◌==◌, List, Option, Some, None, option_map, unwrap_or, option_and_then, ℤ, pos, negsuc, ◌+ℤ◌, unsigned_abs}
use Rattle.std.specs.List.{list_any}
use Rattle.nc_number.specs.Arithmetic.{whole_of}
use Rattle.nc_number.specs.Conversions.{thousandths_of}
use Rattle.line_text.specs.declared.body.Word.{Word}
use Rattle.plain_form.specs.declared.said.Said.{Said}
use Rattle.plain_form.specs.declared.said.Said.TheVariants.{Nothing, Number, Calculated}
use Rattle.plain_form.specs.Said.{last_said}

-- the length that is written out
abbrev pub said_length : Said → Option ℤ
said_length Nothing = None
said_length (Number literal) = Some (thousandths_of literal)
said_length Calculated = None

abbrev pub length_said : ℕ → List Word → Option ℤ
length_said letter words = said_length (last_said letter words)

-- the same, or another length
abbrev pub length_or : ℕ → ℤ → List Word → ℤ
length_or letter or words = unwrap_or (length_said letter words) or

-- the number, if it is not negative
abbrev pub natural : ℤ → Option ℕ
natural (pos n) = Some n
natural (negsuc n) = None

-- the whole number from 0 on that is written out
abbrev pub said_count : Said → Option ℕ
said_count Nothing = None
said_count (Number literal) = option_and_then natural (whole_of literal.value)
said_count Calculated = None

abbrev pub count_said : ℕ → List Word → Option ℕ
count_said letter words = said_count (last_said letter words)

-- the same, or another number
abbrev pub count_or : ℕ → ℕ → List Word → ℕ
count_or letter or words = unwrap_or (count_said letter words) or

-- the number that is written out
abbrev pub said_value : Said → Option ℤ
said_value Nothing = None
said_value (Number literal) = Some literal.value
said_value Calculated = None

abbrev pub value_said : ℕ → List Word → Option ℤ
value_said letter words = said_value (last_said letter words)

-- the size of a length, or another size if there is none
abbrev pub size_or : ℕ → Option ℤ → ℕ
size_or own None = own
size_or own (Some said) = unsigned_abs said

-- the place that an absolute word names, or a way from a place on
abbrev pub place_from : Option ℤ → ℤ → ℤ → ℤ
place_from (Some to) way from = to
place_from None way from = from +ℤ way

-- the place on an axis that its words name, from a place on
abbrev pub place_said : ℕ → ℕ → ℤ → List Word → ℤ
place_said absolute relative from words = place_from (length_said absolute words) (length_or relative (pos 0) words) from

-- there is a word of the letter
abbrev pub is_said : ℕ → List Word → Bool
is_said letter words = list_any (λ word. word.letter == letter) words
