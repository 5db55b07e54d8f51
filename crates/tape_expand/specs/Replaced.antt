-- Which lines of a text give way to the parts of a tape: the edits that src/part_text.rt makes.
-- Expansion cites it; Splice says what edits do to a text.
use Rattle.std.specs.Prelude.{ℕ, List, [], ◌∷◌, map}
use Rattle.cycle_form.specs.Parts.{PartView}
use Rattle.line_edits.specs.declared.edits.Edit.{Edit}
use Rattle.tape_expand.specs.BlockText.{part_text}

-- the edit by which a line goes, with its line feed
abbrev pub line_removal : ℕ → Edit
line_removal line = record { line = line; new = [] }

-- the first of these lines gives way to a text, and the others go
abbrev pub line_replacements : List ℕ → List ℕ → List Edit
line_replacements text [] = []
line_replacements text (line ∷ lines) = record { line = line; new = text } ∷ map line_removal lines

-- the edits of a part: its blocks stand in place of its first line
unfoldable pub edits_of : PartView → List Edit
edits_of part = line_replacements (part_text part) part.lines
