-- The text of a made tape, line by line: what src/tape.rt writes.
use Rattle.std.specs.Prelude.{ℕ, Bool, ◌+◌, ◌*◌, ◌%◌, ◌==◌, if◌then◌else◌, List, [], ◌∷◌, ◌++◌, map, codes}
use Rattle.std.specs.List.{flat_map, range_with_len, slice_index}
use Rattle.std.specs.Fmt.{decimal}
use Rattle.nc_number.specs.Path.{number_of}
use Rattle.nc_number.specs.declared.path.Path.{Path}
use Rattle.nc_number.specs.declared.path.Path.TheVariants.{One, Two}

-- A made tape: a head, fifty rounds and an end. A round is ninety-eight cuts, a line on a variable
-- and a wait. The made number turns the places of the cuts and the codes of the waits.

-- the diameter of a cut, in whole millimetres: 10 to 99
abbrev pub cut_diameter : Path → ℕ → ℕ → ℕ → ℕ
cut_diameter path number round cut = 10 + (number + 7 * round + 3 * cut + number_of path) % 90

-- how far a cut goes before the zero of Z: 0 to 79 mm
abbrev pub cut_depth : ℕ → ℕ → ℕ → ℕ
cut_depth number round cut = (number + round + cut) % 80

-- the line of a cut: straight (G01), to the diameter and the depth of that cut
unfoldable pub cut_line : Path → ℕ → ℕ → ℕ → List ℕ
cut_line path number round cut =
    codes "G01 X" ++ decimal (cut_diameter path number round cut) ++ codes ". Z-" ++ decimal (cut_depth number round cut) ++ codes "."

-- the line on a variable in a round: path 1 counts #501 up in the odd rounds, and path 2 copies it
-- to #502 in the even ones (the settings say which of these the paths share); in its other rounds a
-- path counts its local variable #1 up
unfoldable pub variable_line : Path → ℕ → List ℕ
variable_line One round = if round % 2 == 1 then codes "#501=#501+1" else codes "#1=#1+1"
variable_line Two round = if round % 2 == 1 then codes "#1=#1+1" else codes "#502=#501"

-- the number after M of the wait that ends a round: 100 to 197 in turn
abbrev pub wait_code : ℕ → ℕ → ℕ
wait_code number round = 100 + (number + round) % 98

-- the line of the wait that ends a round
unfoldable pub wait_line : ℕ → ℕ → List ℕ
wait_line number round = codes "M" ++ decimal (wait_code number round)

-- the numbers of the cuts of a round: 0 to 97
unfoldable pub cuts : List ℕ
cuts = range_with_len 0 98

-- the lines of a round: its cuts, its line on a variable and its wait
unfoldable pub round_lines : Path → ℕ → ℕ → List (List ℕ)
round_lines path number round =
    map (cut_line path number round) cuts ++ variable_line path round ∷ wait_line number round ∷ []

-- how a made tape begins: the sign %, the program O0001, a rapid, and the feed in mm per revolution
unfoldable pub head_lines : List (List ℕ)
head_lines = codes "%" ∷ codes "O0001" ∷ codes "G00 X200. Z100." ∷ codes "G99 F0.2" ∷ []

-- how a made tape ends: M30 and the sign %
unfoldable pub end_lines : List (List ℕ)
end_lines = codes "M30" ∷ codes "%" ∷ []

-- the numbers of the rounds: 1 to 50
unfoldable pub rounds : List ℕ
rounds = range_with_len 1 50

-- all lines of a made tape
unfoldable pub made_lines : Path → ℕ → List (List ℕ)
made_lines path number = head_lines ++ flat_map (round_lines path number) rounds ++ end_lines

-- a line with the line feed (10) that ends it
abbrev pub line_with_end : List ℕ → List ℕ
line_with_end line = line ++ 10 ∷ []

-- lines as a text: a line feed ends each
unfoldable pub text_of : List (List ℕ) → List ℕ
text_of lines = flat_map line_with_end lines

-- the made tape of a path for a number, as a text
unfoldable pub made_tape : Path → ℕ → List ℕ
made_tape path number = text_of (made_lines path number)

-- the first byte of the line is M (77): of a made tape, a wait or the end of the program
unfoldable pub begins_with_m : List ℕ → Bool
begins_with_m line = slice_index line 0 == 77
