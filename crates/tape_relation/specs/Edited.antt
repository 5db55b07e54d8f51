-- One line of a tape's text, and what may be put into a line or taken out of it: the conditions of
-- the laws of edits (src/edits.rt). Bytes: 10 is the line feed, 13 the carriage return.
-- For this crate alone.
use Rattle.std.specs.Prelude.{◌≡◌, ℕ, ◌<◌, ◌≤◌, Bool, true, false, ◌==◌, List, [], ◌∷◌, ◌++◌, length, All, Option, Ok, if◌then◌else◌}
use Rattle.std.specs.List.{list_all}
use Rattle.nc_number.specs.declared.limits.TheConstants.{LONGEST_LINE}
use Rattle.line_text.specs.declared.said.Said.{Said}
use Rattle.line_text.specs.Signs.{signs_of, without_last}
use Rattle.line_text.specs.Pieces.{is_comment}
use Rattle.nc_text.specs.Lines.{IsOneLine, lines_of, is_percent}
use Rattle.line_text.specs.Front.{behind_comments, switch_of}
use Rattle.line_text.specs.Said.{line_says, is_skipped}
use Rattle.tape_relation.specs.Alike.{Fits}

-- whether each line of a text has its line feed, the last one too
abbrev pub are_whole : List ℕ → Bool
are_whole text = list_all (λ line. line.ended) (lines_of text)

-- the text of the lines before a line, the line with its line feed, and what stands after it
abbrev pub with_line : List ℕ → List ℕ → List ℕ → List ℕ
with_line front line back = front ++ (line ++ 10 ∷ back)

-- the line is one line of the text, a line feed ends it, and neither the line nor the text is too
-- long
pub record IsLine (front line back : List ℕ) : Type 0 where
  -- the lines before it all have their line feeds
  pub whole : are_whole front ≡ true
  -- no line feed stands in the line
  pub one_line : IsOneLine line
  -- the line has at most 512 bytes
  pub short : length line ≤ LONGEST_LINE
  -- the text has at most 4 MiB
  pub fits : Fits (with_line front line back)

-- the line is the last one of the text, without a line feed, and neither the line nor the text is
-- too long
pub record IsLastLine (front line : List ℕ) : Type 0 where
  -- the line has a byte
  pub some : 0 < length line
  -- the lines before it all have their line feeds
  pub whole : are_whole front ≡ true
  -- no line feed stands in the line
  pub one_line : IsOneLine line
  -- the line has at most 512 bytes
  pub short : length line ≤ LONGEST_LINE
  -- the text has at most 4 MiB
  pub fits : Fits (front ++ line)

-- the switch of the block on a line, if it has the skip sign; the flag says whether a line feed
-- ends the line
abbrev pub line_switch : List ℕ → Bool → Option ℕ
line_switch line ended = switch_of (behind_comments (signs_of line ended).list)

-- the block on the line is skipped and readable
pub record IsSkipped (skips : ℕ) (line : List ℕ) (ended : Bool) : Type 0 where
  -- what the line says; as a skipped line it says nothing
  pub says : Said
  -- the switch of its skip sign is set
  pub switch : is_skipped skips (line_switch line ended) ≡ true
  -- the line has no refusal by itself
  pub readable : line_says skips line ended ≡ Ok says

-- nothing but comments counts on the line, and none is open at its end
pub record HasOnlyComments (line : List ℕ) (ended : Bool) : Type 0 where
  -- each byte of the line that counts belongs to a comment
  pub comments : list_all is_comment (signs_of line ended).list ≡ true
  -- the line does not end inside a comment
  pub closed : (signs_of line ended).unclosed ≡ false

-- the line does not end with a carriage return
abbrev pub EndsWithoutReturn : List ℕ → Type 0
EndsWithoutReturn line = without_last 13 line ≡ line

-- the text has no carriage return
abbrev pub HasNoReturn : List ℕ → Type 0
HasNoReturn text = All (λ b. (b == 13) ≡ false) text

-- each line of the text has at most 511 bytes, its line feed not counted: it has room for a
-- carriage return
abbrev pub HaveRoom : List ℕ → Type 0
HaveRoom text = All (λ line. length line.bytes < LONGEST_LINE) (lines_of text)

-- the text with a carriage return before each line feed
abbrev pub with_returns : List ℕ → List ℕ
with_returns [] = []
with_returns (b ∷ bs) = if b == 10 then 13 ∷ 10 ∷ with_returns bs else b ∷ with_returns bs

-- a blank may stand here in a line: not in front of the `%` that begins it, nor behind the carriage
-- return that ends it
pub record MayHaveBlank (left right : List ℕ) : Type 0 where
  -- a blank that begins the line does not stand before a `%`
  pub percent : left ≡ [] → is_percent right ≡ false
  -- a blank that ends the line does not stand after a carriage return
  pub return : right ≡ [] → EndsWithoutReturn left
