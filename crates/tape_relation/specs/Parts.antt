-- The parts of a tape's text: lines before the first that begins with `%`, the lines of the
-- programs, and the lines from the next on that begins with `%`.
-- Byte 10 is the line feed. Conditions and Relation cite these parts; no other crate does.
use Rattle.std.specs.Prelude.{◌≡◌, ℕ, ◌+◌, ◌<◌, ◌==◌, Bool, true, false, List, [], ◌∷◌, ◌++◌, length, All, if◌then◌else◌}
use Rattle.std.specs.List.{list_any, flat_map}
use Rattle.nc_text.specs.Lines.{Line}

-- a line as it stands in the text, with its line feed
abbrev pub written_line : Line → List ℕ
written_line line = line.bytes ++ (if line.ended then 10 ∷ [] else [])

-- how many bytes these lines have, with their line feeds
abbrev pub size : List Line → ℕ
size lines = length (flat_map written_line lines)

-- each line has its line feed; the last has it, or it holds a byte
abbrev pub AreEnded : List Line → Type 0
AreEnded [] = Unit {0}
AreEnded (line ∷ []) = line.ended ≡ false → 0 < length line.bytes
AreEnded (line ∷ next ∷ lines) = (line.ended ≡ true) × AreEnded (next ∷ lines)

-- none of the bytes is a line feed (10)
abbrev pub HasNoFeed : List ℕ → Type 0
HasNoFeed bytes = All (λ b. (b == 10) ≡ false) bytes

-- a text is these lines, one behind the other, and no line feed stands in one
pub record AreLines (text : List ℕ) (lines : List Line) : Type 0 where
  -- the lines, each with its line feed, make the text
  pub text_is : text ≡ flat_map written_line lines
  -- no line feed stands in a line
  pub one_line : All (λ line. HasNoFeed line.bytes) lines
  -- only the last line may have no line feed, and then it has a byte
  pub ended : AreEnded lines

-- whether the bytes of a line begin with `%` (37)
abbrev pub is_percent : List ℕ → Bool
is_percent [] = false
is_percent (b ∷ bytes) = b == 37

-- whether a line begins with `%`
abbrev pub begins_percent : Line → Bool
begins_percent line = is_percent line.bytes

-- whether some line begins with `%`
abbrev pub has_percent : List Line → Bool
has_percent lines = list_any begins_percent lines

-- the lines before the first that begins with `%`, all if none does
abbrev pub before_percent : List Line → List Line
before_percent [] = []
before_percent (line ∷ lines) = if begins_percent line then [] else line ∷ before_percent lines

-- the lines after the first that begins with `%`, none if none does
abbrev pub behind_percent : List Line → List Line
behind_percent [] = []
behind_percent (line ∷ lines) = if begins_percent line then lines else behind_percent lines

-- the lines of the programs: those between the first and the second line that begin with `%`, or up
-- to the end if there is no second
abbrev pub body_of : List Line → List Line
body_of lines = before_percent (behind_percent lines)

-- whether a second line begins with `%`
abbrev pub is_closed : List Line → Bool
is_closed lines = has_percent (behind_percent lines)

-- the number of the first line that begins with `%`, or 1
abbrev pub opening_line : List Line → ℕ
opening_line lines = if has_percent lines then length (before_percent lines) + 1 else 1
