-- The bytes of a line of a tape that count: its signs. Of a comment only the opening bracket
-- counts. Src/sign.rt computes `signs_of`.
use Rattle.std.specs.Prelude.{ℕ, ◌+◌, ◌-◌, Bool, true, false, not, ◌&&◌, ◌||◌, ◌==◌, List, [], ◌∷◌, length, take, slice_index, if◌then◌else◌}
use Rattle.std.specs.Char.{is_ascii_digit, is_ascii_uppercase, to_ascii_uppercase}
use Rattle.std.specs.List.{list_all, suffix_len}
use Rattle.line_text.specs.declared.sign.Sign.{Sign}

-- whether a byte is a space (32) or a tab (9), which are ignored
abbrev pub is_blank : ℕ → Bool
is_blank b = b == 32 || b == 9

-- what a line has outside blanks and comments, in upper case; a comment is its opening bracket
pub record Scan : Type 0 where
  -- the bytes that count
  pub list : List Sign
  -- the line ends inside a comment
  pub unclosed : Bool

-- a scan with the byte b at this place in front of it, if the byte counts, as the flag says
abbrev pub add_sign : Bool → ℕ → ℕ → Scan → Scan
add_sign true place b scan = record scan { list = record { place = place; byte = to_ascii_uppercase b } ∷ scan.list }
add_sign false place b scan = scan

-- the byte b at this place as one sign, or no sign if it does not count, as the flag says
abbrev pub counted_sign : Bool → ℕ → ℕ → List Sign
counted_sign true place b = record { place = place; byte = to_ascii_uppercase b } ∷ []
counted_sign false place b = []

-- whether the byte after b stands in a comment; the flag says it of b. 40 opens, 41 closes.
abbrev pub inside_behind : Bool → ℕ → Bool
inside_behind true b = not (b == 41)
inside_behind false b = b == 40

-- the signs of bytes; the flag says whether the first stands in a comment, the number is its place
abbrev pub scan_of : List ℕ → Bool → ℕ → Scan
scan_of [] inside place = record { list = []; unclosed = inside }
scan_of (b ∷ bs) inside place = add_sign (not inside && not (is_blank b)) place b (scan_of bs (inside_behind inside b) (place + 1))

-- the line without its last byte, if that is b
abbrev pub without_last : ℕ → List ℕ → List ℕ
without_last b line = if slice_index line (length line - 1) == b then take (length line - 1) line else line

-- a line without the carriage return (13) directly before its line feed; the flag says whether it
-- has a line feed
abbrev pub without_return : List ℕ → Bool → List ℕ
without_return line ended = if ended then without_last 13 line else line

-- a line without the blanks at its end
abbrev pub without_blanks : List ℕ → List ℕ
without_blanks line = take (length line - suffix_len is_blank line) line

-- what is read of a line: not the carriage return before its line feed, nor the blanks at its end,
-- nor one `;` (59) before those; the flag says whether it has a line feed
abbrev pub content_of : List ℕ → Bool → List ℕ
content_of line ended = without_last 59 (without_blanks (without_return line ended))

-- whether a byte may stand outside comments: letters, digits and . + - / ( ) # [ ] = *
-- src/sign.rt and tape_relation (`is_character`) have the same table.
abbrev pub is_allowed : ℕ → Bool
is_allowed b =
    is_ascii_uppercase b || is_ascii_digit b || b == 46 || b == 43 || b == 45 || b == 47 || b == 40 || b == 41 || b == 35 || b == 91
    || b == 93 || b == 61 || b == 42

-- whether each sign is a byte that may stand outside comments
abbrev pub are_allowed : List Sign → Bool
are_allowed signs = list_all (λ sign. is_allowed sign.byte) signs

-- the signs of a line, and whether it ends in a comment; the flag says whether it has a line feed
unfoldable pub signs_of : List ℕ → Bool → Scan
signs_of line ended = scan_of (content_of line ended) false 0
