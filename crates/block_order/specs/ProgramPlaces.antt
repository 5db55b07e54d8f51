-- At which place of a tape the program of an O number stands, and its flag in a list with one for
-- each place.
use Rattle.std.specs.Prelude.{ℕ, suc, Bool, false, ◌==◌, List, [], ◌∷◌, Option, Some, None, slice_index_or, if◌then◌else◌}
use Rattle.block_order.specs.declared.program.ControlProgram.{ControlProgram}

-- The place of the first program of this number, among programs that stand from a place on.
abbrev pub place_from : List ControlProgram → ℕ → ℕ → Option ℕ
place_from [] place number = None
place_from (p ∷ ps) place number = if p.number == number then Some place else place_from ps (suc place) number

-- The place of the first program of this number on the tape.
abbrev pub place_of : List ControlProgram → ℕ → Option ℕ
place_of tape number = place_from tape 0 number

-- The flag at a place; false for no place.
abbrev pub flag_at : List Bool → Option ℕ → Bool
flag_at flags None = false
flag_at flags (Some place) = slice_index_or flags place false

-- Whether the program of this O number is flagged, by a list with a flag at each program's place.
abbrev pub is_flagged : List ControlProgram → List Bool → ℕ → Bool
is_flagged tape flags number = flag_at flags (place_of tape number)
