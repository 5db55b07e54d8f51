-- The text of a tape as lines: how bytes are cut at line feeds. `tape_of` reads these lines.
use Rattle.std.specs.Prelude.{◌≡◌, All, ℕ, ◌+◌, Bool, true, false, ◌==◌, List, [], ◌∷◌, if◌then◌else◌}

-- the bytes before a line feed, or before the end of the text
pub record Line : Type 0 where
  -- its bytes, without the line feed
  pub bytes : List ℕ
  -- whether a line feed ends it; only the last line of a text may have none
  pub ended : Bool

-- these lines with one byte more before the first one
abbrev pub onto_line : ℕ → List Line → List Line
onto_line b [] = record { bytes = b ∷ []; ended = false } ∷ []
onto_line b (line ∷ lines) = record { bytes = b ∷ line.bytes; ended = line.ended } ∷ lines

-- the lines of a text, each of which has a byte or a line feed, 10
abbrev pub lines_of : List ℕ → List Line
lines_of [] = []
lines_of (b ∷ bs) = if b == 10 then record { bytes = []; ended = true } ∷ lines_of bs else onto_line b (lines_of bs)

-- bytes without a line feed
abbrev pub IsOneLine : List ℕ → Type 0
IsOneLine bytes = All (λ b. (b == 10) ≡ false) bytes

-- whether a line begins with `%` (37), and so begins or ends the tape
abbrev pub is_percent : List ℕ → Bool
is_percent [] = false
is_percent (b ∷ bs) = b == 37

-- the bytes of a line of this length, with its line feed if it has one
abbrev pub size_of : ℕ → Bool → ℕ
size_of len ended = if ended then len + 1 else len
