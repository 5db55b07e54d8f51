-- A text in which some lines are replaced: line by line (`edited_lines`), and byte by byte as
-- src/edits.rt does it (`spliced_text`). Byte 10 is the line feed.
use Rattle.std.specs.Prelude.{ℕ, ◌+◌, Bool, false, ◌==◌, List, [], ◌∷◌, ◌++◌, drop, if◌then◌else◌}
use Rattle.nc_text.specs.Lines.{Line}
use Rattle.line_edits.specs.declared.edits.Edit.{Edit}

-- whether the first of the edits, if there is one, is of this line
abbrev pub is_due : ℕ → List Edit → Bool
is_due n [] = false
is_due n (edit ∷ edits) = n == edit.line

-- the bytes that the first of the edits puts in, if there is one
abbrev pub first_new : List Edit → List ℕ
first_new [] = []
first_new (edit ∷ edits) = edit.new

-- the bytes of a line, with its line feed
abbrev pub bytes_of : Line → List ℕ
bytes_of line = line.bytes ++ (if line.ended then 10 ∷ [] else [])

-- what the first edit puts in place of a line and its line feed: nothing for a last line that has
-- none
abbrev pub new_for : List Edit → Line → List ℕ
new_for edits line = if line.ended then first_new edits else []

-- The lines of a text from line n on: a line that an edit names, with its line feed, gives way to
-- the edit's bytes, and every other line stands byte for byte. The edits are in the order of their
-- lines.
abbrev pub edited_lines : ℕ → List Edit → List Line → List ℕ
edited_lines n edits [] = []
edited_lines n edits (line ∷ lines) =
    if is_due n edits
    then new_for edits line ++ edited_lines (n + 1) (drop 1 edits) lines
    else bytes_of line ++ edited_lines (n + 1) edits lines

-- the line after a byte that stands in line n: the next one after a line feed (10)
abbrev pub line_behind : ℕ → ℕ → ℕ
line_behind n b = if b == 10 then n + 1 else n

-- the bytes of a text with edits, byte by byte, from a place in line n on
unfoldable pub spliced_text : ℕ → List Edit → List ℕ → List ℕ
spliced_text n edits [] = []
spliced_text n edits (b ∷ bytes) =
    if is_due n edits
    then (if b == 10 then first_new edits ++ spliced_text (n + 1) (drop 1 edits) bytes else spliced_text n edits bytes)
    else b ∷ spliced_text (line_behind n b) edits bytes
