-- Which lines of a text have a skip sign or a comment, called a mark here: such a line is in no
-- form. Src/marks.rt computes it.
use Rattle.std.specs.Prelude.{ℕ, ◌-◌, Bool, false, not, ◌||◌, ◌==◌, List, [], ◌∷◌, Option, Some, None, slice_get, if◌then◌else◌}
use Rattle.nc_text.specs.declared.tape.Block.{Block}

-- Whether a byte is `(` (40), which begins a comment, or `/` (47), the skip sign.
abbrev pub is_mark : ℕ → Bool
is_mark b = b == 40 || b == 47

-- For each line from here on whether it has a mark; `marked` says whether the bytes of the first
-- line before here have one. 10 is the line feed.
unfoldable pub marks_from : Bool → List ℕ → List Bool
marks_from marked [] = marked ∷ []
marks_from marked (b ∷ bytes) = if b == 10 then marked ∷ marks_from false bytes else marks_from (marked || is_mark b) bytes

-- For each line of a text whether it has a skip sign or begins a comment, from line 1 on.
abbrev pub marks_of : List ℕ → List Bool
marks_of text = marks_from false text

-- Whether there is such a line and it has no mark.
abbrev pub is_unmarked : Option Bool → Bool
is_unmarked None = false
is_unmarked (Some marked) = not marked

-- Whether the block's line has neither a skip sign nor a comment.
abbrev pub is_plain : List Bool → Block → Bool
is_plain marks block = is_unmarked (slice_get marks (block.line - 1))
