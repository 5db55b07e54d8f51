-- The edits that a text gives, line by line, or its first line that is not allowed. What one line
-- says is in Lines.
use Rattle.std.specs.Prelude.{ℕ, ◌+◌, nat_lt, List, [], ◌∷◌, ◌++◌, length, Option, Some, None, Result, Ok, Err, if◌then◌else◌}
use Rattle.std.specs.Str.Lines.{lines}
use Rattle.edit_texts.specs.declared.edit_list.PathEdit.{PathEdit}
use Rattle.edit_texts.specs.declared.edit_list.TheConstants.{MOST_EDITS}
use Rattle.edit_texts.specs.declared.entry.Entry.{Entry}
use Rattle.edit_texts.specs.declared.entry.Entry.TheVariants as says
use Rattle.edit_texts.specs.Lines.{line_says}

-- the edits with what one line more says, if it is allowed after them: each line is an edit of its
-- own, and the 65th is not allowed
abbrev pub with_said : List PathEdit → Option Entry → Option (List PathEdit)
with_said edits None = None
with_said edits (Some says.Nothing) = Some edits
with_said edits (Some (says.Edit edit)) = if nat_lt (length edits) MOST_EDITS then Some (edits ++ edit ∷ []) else None

-- the number of a line that is not allowed, or what the lines after it give
abbrev pub or_refused : ℕ → Option (List PathEdit) → (List PathEdit → Result (List PathEdit) ℕ) → Result (List PathEdit) ℕ
or_refused number None rest = Err number
or_refused number (Some edits) rest = rest edits

-- the edits so far and those of more lines, or the number of the first line that is not allowed;
-- the first of these lines has this number
abbrev pub edits_from : List (List ℕ) → ℕ → List PathEdit → Result (List PathEdit) ℕ
edits_from [] number edits = Ok edits
edits_from (line ∷ lines) number edits = or_refused number (with_said edits (line_says line)) (edits_from lines (number + 1))

-- the edits of a text, or the number of its first line that is not allowed
unfoldable pub edits_of : List ℕ → Result (List PathEdit) ℕ
edits_of text = edits_from (lines text) 1 []
