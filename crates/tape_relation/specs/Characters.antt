-- The bytes of a line: which are ignored, which are characters, which stand in comments, and the
-- line's signs.
-- Bytes: 9 is the tab, 10 the line feed, 13 the carriage return, 32 the space, 40 `(`, 41 `)`, 59
-- `;`.
-- The lowest part of the relation: Words and LineGrammar go on from the signs, Conditions and
-- LineAlone take the refusals of bytes. No other crate cites it.
use Rattle.std.specs.Prelude.{◌≡◌, ℕ, ◌+◌, Bool, true, false, ◌&&◌, ◌||◌, ◌==◌, List, [], ◌∷◌, ◌++◌, length, map, codes}
use Rattle.std.specs.Char.{is_ascii_digit, is_ascii_uppercase, to_ascii_uppercase}
use Rattle.std.specs.List.{list_any}
use Rattle.line_text.specs.declared.sign.Sign.{Sign}
use Rattle.nc_text.specs.Lines.{Line}

-- whether a byte is a space or a tab
abbrev pub is_space : ℕ → Bool
is_space b = b == 32 || b == 9

-- whether the byte b is the carriage return directly before the line feed of a line that has one
abbrev pub is_return : Bool → ℕ → List ℕ → Bool
is_return ended b behind = b == 13 && (ended && length behind == 0)

-- whether bytes at the end of a line are only spaces, tabs and the carriage return before its line
-- feed; the flag says whether it has a line feed
abbrev pub are_spaces : Bool → List ℕ → Bool
are_spaces ended [] = true
are_spaces ended (b ∷ behind) = (is_space b || is_return ended b behind) && are_spaces ended behind

-- whether a byte outside comments, with these bytes after it in the line, does not count: a space,
-- a tab, the carriage return before the line feed, or a `;` after which only those stand; the flag
-- says whether the line has a line feed
abbrev pub is_ignored : Bool → ℕ → List ℕ → Bool
is_ignored ended b behind = is_space b || (is_return ended b behind || (b == 59 && are_spaces ended behind))

-- whether a byte is a character of a tape: a capital letter, a digit or one of eleven others;
-- line_text (`is_allowed`) has the same table
abbrev pub is_character : ℕ → Bool
is_character b = is_ascii_uppercase b || (is_ascii_digit b || list_any (λ c. b == c) (codes ".+-/()#[]=*"))

-- a text that can stand in a comment: it has no `)`
abbrev pub IsRemark : List ℕ → Type 0
IsRemark text = list_any (λ b. b == 41) text ≡ false

-- Bytes after which no comment is open: each stands outside comments, or in one from a `(` to the
-- next `)`.
pub data IsOutside : List ℕ → Type 0 where
  -- no bytes
  nothing : IsOutside []
  -- a byte that opens no comment, and then such bytes
  byte : (b : ℕ) (bytes : List ℕ) → (b == 40) ≡ false → IsOutside bytes → IsOutside (b ∷ bytes)
  -- a whole comment, and then such bytes
  comment : (text bytes : List ℕ) → IsRemark text → IsOutside bytes → IsOutside (40 ∷ (text ++ 41 ∷ bytes))

-- the line has a byte outside comments that counts and is no character; a lower case letter stands
-- for its capital
abbrev pub HasBadCharacter : Line → Type 0
HasBadCharacter line = (front : List ℕ) × (b : ℕ) × (back : List ℕ) × (line.bytes ≡ front ++ b ∷ back) × IsOutside front
    × (is_character (to_ascii_uppercase b) ≡ false) × (is_ignored line.ended b back ≡ false)

-- the line ends in a comment
abbrev pub EndsInComment : Line → Type 0
EndsInComment line = (front : List ℕ) × (text : List ℕ) × (line.bytes ≡ front ++ 40 ∷ text) × IsOutside front
    × IsRemark text

-- whether a sign is a comment, of which only the opening bracket is a sign
abbrev pub is_comment : Sign → Bool
is_comment sign = sign.byte == 40

-- the bytes of signs, without their places
abbrev pub bytes_of : List Sign → List ℕ
bytes_of signs = map (λ sign. sign.byte) signs

-- the sign of this byte at this place of its line, counted from 0
abbrev pub sign_at : ℕ → ℕ → Sign
sign_at place b = record { place = place; byte = b }

-- The signs of bytes at the end of a line, the first byte at this place: each byte that counts, in
-- upper case, and each comment as its `(`. `ended` says whether the line has a line feed.
pub data AreSigns (ended : Bool) : ℕ → List ℕ → List Sign → Type 0 where
  -- no bytes
  nothing : (place : ℕ) → AreSigns ended place [] []
  -- a byte that does not count
  ignored : (place b : ℕ) (bytes : List ℕ) (signs : List Sign) → is_ignored ended b bytes ≡ true
      → AreSigns ended (place + 1) bytes signs → AreSigns ended place (b ∷ bytes) signs
  -- a byte that counts and opens no comment
  counted : (place b : ℕ) (bytes : List ℕ) (signs : List Sign) → is_ignored ended b bytes ≡ false
      → (b == 40) ≡ false → AreSigns ended (place + 1) bytes signs
      → AreSigns ended place (b ∷ bytes) (sign_at place (to_ascii_uppercase b) ∷ signs)
  -- a comment that is closed
  remark : (place : ℕ) (text bytes : List ℕ) (signs : List Sign) → IsRemark text
      → AreSigns ended (place + (length text + 2)) bytes signs
      → AreSigns ended place (40 ∷ (text ++ 41 ∷ bytes)) (sign_at place 40 ∷ signs)
  -- a comment that is open at the end of the line
  left_open : (place : ℕ) (text : List ℕ) → IsRemark text → AreSigns ended place (40 ∷ text) (sign_at place 40 ∷ [])
