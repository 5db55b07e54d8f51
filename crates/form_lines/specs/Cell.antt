-- The lines of the cell among those of the settings. src/cell.rt finds them. 10 ends a line.
use Rattle.std.specs.Prelude.{ℕ, Bool, true, false, List, [], ◌∷◌, ◌++◌, is_some, if◌then◌else◌}
use Rattle.std.specs.Str.Lines.{lines}
use Rattle.form_lines.specs.Naming.{line_choice}

-- a line says a choice of the forms
abbrev pub is_choice : List ℕ → Bool
is_choice line = is_some (line_choice line)

-- a line, unless it does
abbrev pub kept_line : List ℕ → List ℕ
kept_line line = if is_choice line then [] else line

-- what ends the line before, if there is one
abbrev pub end_before : Bool → List ℕ
end_before begun = if begun then 10 ∷ [] else []

-- a line of the cell, or an empty one in place of a choice
abbrev pub line_text : Bool → List ℕ → List ℕ
line_text begun line = end_before begun ++ kept_line line

-- the text of lines, after one that was begun or as the first
abbrev pub text_from : Bool → List (List ℕ) → List ℕ
text_from begun [] = []
text_from begun (line ∷ others) = line_text begun line ++ text_from true others

-- the text without the lines that say a choice
abbrev pub cell_text : List ℕ → List ℕ
cell_text text = text_from false (lines text)
