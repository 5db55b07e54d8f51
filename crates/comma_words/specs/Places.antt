-- The commas before the letters C, R and A: where they stand, and a text without them. src/places.rt
-- computes it. 10 is the line feed, 32 the blank, 44 the comma; 65, 67 and 82 are A, C and R, and 97,
-- 99 and 114 the small ones.
use Rattle.std.specs.Prelude.{ℕ, ◌+◌, ◌-◌, ◌^◌, min, Bool, false, ◌&&◌, ◌||◌, ◌==◌, List, [], ◌∷◌, ◌++◌, if◌then◌else◌}
use Rattle.comma_words.specs.declared.places.CommaPlace.{CommaPlace}

-- the letter begins a word after a comma
abbrev pub is_after_comma : ℕ → Bool
is_after_comma letter = letter == 67 || letter == 82 || letter == 65 || letter == 99 || letter == 114 || letter == 97

-- the byte is a comma before such a letter
abbrev pub begins_word : ℕ → List ℕ → Bool
begins_word byte [] = false
begins_word byte (letter ∷ rest) = byte == 44 && is_after_comma letter

-- one more, as far as a count goes
abbrev pub next_count : ℕ → ℕ
next_count count = min (count + 1) (2 ^ 32 - 1)

-- the place behind a byte
abbrev pub place_behind : CommaPlace → ℕ → CommaPlace
place_behind at byte =
    if byte == 10
    then record { line = next_count at.line; place = 0 }
    else record { line = at.line; place = next_count at.place }

-- the place before a text
abbrev pub front : CommaPlace
front = record { line = 1; place = 0 }

-- the place behind the letter after this byte, if it is a comma before a letter of a word
abbrev pub comma_at : CommaPlace → ℕ → List ℕ → List CommaPlace
comma_at at byte rest =
    if begins_word byte rest then record { line = at.line; place = next_count (next_count at.place) } ∷ [] else []

-- the places behind the letters that stand after commas, from a place on
abbrev pub comma_places : CommaPlace → List ℕ → List CommaPlace
comma_places at [] = []
comma_places at (byte ∷ rest) = comma_at at byte rest ++ comma_places (place_behind at byte) rest

-- a byte, or a blank in place of a comma before a letter of a word
abbrev pub byte_without : ℕ → List ℕ → ℕ
byte_without byte rest = if begins_word byte rest then 32 else byte

-- the text with a blank in place of each comma before a letter of a word
abbrev pub without_commas : List ℕ → List ℕ
without_commas [] = []
without_commas (byte ∷ rest) = byte_without byte rest ∷ without_commas rest
