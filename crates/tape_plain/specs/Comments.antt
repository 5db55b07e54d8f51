-- The comments of the lines of a text. src/comments.rt computes it. 10 is the line feed, 40 and 41 are
-- the brackets of a comment.
use Rattle.std.specs.Prelude.{ℕ, ◌-◌, Bool, false, not, ◌&&◌, ◌||◌, ◌==◌, List, [], ◌∷◌, ◌++◌, Option, Some, None, slice_get, if◌then◌else◌}

-- a byte of a line belongs to a comment, its brackets too
abbrev pub is_kept : Bool → ℕ → Bool
is_kept inside byte = inside || byte == 40

-- a comment is open behind a byte
abbrev pub is_inside : Bool → ℕ → Bool
is_inside inside byte = is_kept inside byte && not (byte == 41)

-- the byte, if it belongs to a comment
abbrev pub kept_byte : Bool → ℕ → List ℕ
kept_byte inside byte = if is_kept inside byte then byte ∷ [] else []

-- for each line from here on its comments, behind those of the line so far
abbrev pub comments_from : Bool → List ℕ → List ℕ → List (List ℕ)
comments_from inside line [] = line ∷ []
comments_from inside line (byte ∷ bytes) =
    if byte == 10 then line ∷ comments_from false [] bytes
    else comments_from (is_inside inside byte) (line ++ kept_byte inside byte) bytes

-- for each line of a text, from line 1 on, its comments with their brackets, one behind the other
abbrev pub comments_of : List ℕ → List (List ℕ)
comments_of text = comments_from false [] text

-- the comments that were found, or none
abbrev pub found_comment : Option (List ℕ) → List ℕ
found_comment None = []
found_comment (Some comment) = comment

-- the comments of a line, from 1
abbrev pub comment_at : List (List ℕ) → ℕ → List ℕ
comment_at comments line = found_comment (slice_get comments (line - 1))
