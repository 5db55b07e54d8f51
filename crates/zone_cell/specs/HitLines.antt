-- The text of the findings of a run, line by line: what is hit in each segment, if anything
-- (src/hit_lines.rt writes the lines).
use Rattle.std.specs.Prelude.{ℕ, ◌+◌, Bool, true, false, List, [], ◌∷◌, ◌++◌, Option, Some, None, codes, decimal}
use Rattle.std.specs.List.{count_by}
use Rattle.text_pieces.specs.Pieces.{text_with_number, path_name}
use Rattle.nc_number.specs.declared.path.Path.{Path}
use Rattle.zone_moves.specs.declared.judging.Hit.{Hit}
use Rattle.zone_moves.specs.declared.judging.Hit.TheVariants as way
use Rattle.zone_moves.specs.declared.stretch.Source.{Source}
use Rattle.zone_moves.specs.declared.stretch.Source.TheVariants as source
use Rattle.zone_moves.specs.declared.stretch.Stretch.{Stretch}
use Rattle.zone_cell.specs.declared.finding.Finding.{Finding}
use Rattle.nc_number.specs.declared.path.Path.TheVariants.{One, Two}

-- what a path does: it makes a move of this line, or stands where it was when the segment began
abbrev pub source_text : Source → List ℕ
source_text (source.Line line) = text_with_number (codes " line ") line
source_text source.Start = codes " stands"

-- a path, and what it does
unfoldable pub doer_text : Path → Stretch → List ℕ
doer_text path stretch = codes " " ++ path_name path ++ source_text stretch.source

-- the tool of a path
unfoldable pub tool_text : Stretch → List ℕ
tool_text stretch = text_with_number (codes " tool ") stretch.tool

-- how the line of two stretches ends
unfoldable pub pair_text : Stretch → Stretch → List ℕ
pair_text one two = doer_text One one ++ doer_text Two two ++ tool_text one ++ tool_text two

-- how the line of a stretch and a box ends
unfoldable pub bar_text : Path → Stretch → ℕ → List ℕ
bar_text path stretch number = doer_text path stretch ++ text_with_number (codes " fixed ") number ++ tool_text stretch

-- what is hit
abbrev pub way_text : Hit → List ℕ
way_text (way.Paths one two) = pair_text one two
way_text (way.Fixed path stretch number) = bar_text path stretch number

-- how the line of a segment ends: nothing is hit in it, or what
abbrev pub outcome_text : Option Hit → List ℕ
outcome_text None = codes " clear\n"
outcome_text (Some hit) = codes " hit" ++ way_text hit ++ codes "\n"

-- the line before a segment that begins with a meeting: its code
abbrev pub met_text : Option ℕ → List ℕ
met_text None = []
met_text (Some code) = text_with_number (codes "met ") code ++ codes "\n"

-- the lines of a segment of this number
unfoldable pub finding_text : ℕ → Finding → List ℕ
finding_text number finding = met_text finding.met ++ decimal number ++ outcome_text finding.hit

-- the lines of segments, the first of which has this number
unfoldable pub finding_texts : ℕ → List Finding → List ℕ
finding_texts number [] = []
finding_texts number (finding ∷ findings) = finding_text number finding ++ finding_texts (number + 1) findings

-- there is a hit
abbrev pub is_some_hit : Option Hit → Bool
is_some_hit None = false
is_some_hit (Some hit) = true

-- in how many segments something is hit
abbrev pub hit_count : List Finding → ℕ
hit_count findings = count_by (λ (finding : Finding). is_some_hit finding.hit) findings
