-- The lines of a text, and what they say together. Bytes: 13 is the carriage return, 40 is `(`.
use Rattle.std.specs.Prelude.{ℕ, ◌+◌, Bool, false, ◌==◌, List, [], ◌∷◌, Option, Some, None, Result, Ok, Err, if◌then◌else◌}
use Rattle.std.specs.List.{list_any}
use Rattle.nc_number.specs.Options.{◌>>=◌}
use Rattle.field_lines.specs.Field.{fields_of}

-- The fields are those of a comment: the first of them begins with `(`.
abbrev pub is_comment : List (List ℕ) → Bool
is_comment ((first ∷ name) ∷ fields) = first == 40
is_comment _ = false

-- The fields of a line: a line with a carriage return in it is not allowed, and a comment has none.
unfoldable pub line_fields : List ℕ → Option (List (List ℕ))
line_fields line =
    if list_any (λ b. b == 13) line then None
    else (if is_comment (fields_of line) then Some [] else Some (fields_of line))

-- What a line says, where `fields_say` tells what fields say: what its fields say, and none if the
-- line is not allowed.
unfoldable pub line_says : {A : Type 0} → (List (List ℕ) → Option A) → List ℕ → Option A
line_says fields_say line = do
  fields ← line_fields line
  fields_say fields

-- The entries with this one first, if it is there.
abbrev pub with_entry : {A : Type 0} → Option A → List A → List A
with_entry None entries = entries
with_entry (Some entry) entries = entry ∷ entries

-- What each line says, where `says` tells what one line says, without the lines that are refused.
abbrev pub entries_of : {A : Type 0} → (List ℕ → Option A) → List (List ℕ) → List A
entries_of says [] = []
entries_of says (line ∷ lines) = with_entry (says line) (entries_of says lines)

-- The line's number if it is refused, else what the rest gives.
abbrev pub if_refused : {A : Type 0} → Option A → ℕ → Option ℕ → Option ℕ
if_refused None number rest = Some number
if_refused (Some entry) number rest = rest

-- The number of the first of these lines that is not allowed, if one is not; the first of them has
-- the number `number`.
abbrev pub first_refused : {A : Type 0} → (List ℕ → Option A) → ℕ → List (List ℕ) → Option ℕ
first_refused says number [] = None
first_refused says number (line ∷ lines) = if_refused (says line) number (first_refused says (number + 1) lines)

-- The answer for a text: what was read, unless a line was refused, and then its number.
abbrev pub unless_refused : {A : Type 0} → Option ℕ → A → Result A ℕ
unless_refused None whole = Ok whole
unless_refused (Some number) whole = Err number
