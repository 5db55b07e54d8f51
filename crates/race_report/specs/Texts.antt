-- The list of races as `races` prints it: how many there are, and a line for each. Src/writing.rt
-- writes it.
use Rattle.std.specs.Prelude.{ℕ, List, [], ◌∷◌, ◌++◌, length, codes}
use Rattle.nc_number.specs.Path.{number_of, other_of}
use Rattle.text_pieces.specs.Pieces.{text_with_number, place_text}
use Rattle.race_report.specs.declared.race.Race.{Race}

-- the line of a race, `#500 after 1 path 1 line 3 path 2 line 5`: the variable, behind how many
-- waits, the writer and its line, the other path and its line
unfoldable pub race_text : Race → List ℕ
race_text race =
    text_with_number (codes "#") race.variable ++ text_with_number (codes " after ") race.after ++ place_text (number_of race.writer) race.write_line
    ++ place_text (number_of (other_of race.writer)) race.other_line ++ codes "\n"

-- a line for each race, in their order
abbrev pub races_text : List Race → List ℕ
races_text [] = []
races_text (race ∷ races) = race_text race ++ races_text races

-- the first line: how many races there are
unfoldable pub head_text : ℕ → List ℕ
head_text count = text_with_number (codes "races ") count ++ codes "\n"

-- the whole list
unfoldable pub list_text : List Race → List ℕ
list_text races = head_text (length races) ++ races_text races
