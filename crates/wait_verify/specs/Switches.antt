-- The block-skip switches of a pair: which a tape names, which the settings leave free, and the
-- positions of the free ones. Both paths see one position, for the whole run. src/switches.rt
-- answers these.
use Rattle.std.specs.Prelude.{ℕ, zero, suc, ◌-◌, ◌^◌, Bool, ◌&&◌, ◌||◌, ◌==◌, nat_le, List, [], ◌∷◌, ◌++◌, slice_index, bit_and, bit_or, Result, Ok, Err, if◌then◌else◌}
use Rattle.cell_settings.specs.Cell.{Cell, settings_of}
use Rattle.wait_verify.specs.declared.switches.Spot.{Spot}
use Rattle.wait_verify.specs.declared.switches.Spot.TheVariants.{Head, Slash, Note, Block}
use Rattle.wait_verify.specs.Asked.{Asked}

-- whether a byte says nothing at the head of a line: a blank (32), a tab (9), a comma (44), which is
-- read as a blank, a carriage return (13) or a zero byte
abbrev pub is_gap : ℕ → Bool
is_gap b = (b == 32 || (b == 9 || b == 44)) || (b == 13 || b == 0)

-- where the byte after b stands, if b stands in the head of a line or after a skip sign: 47 is `/`,
-- 40 opens a comment, and a line feed (10) begins a line
abbrev pub spot_behind_head : ℕ → Spot
spot_behind_head b =
    if b == 47 then Slash
    else if b == 40 then Note
    else if is_gap b || b == 10 then Head
    else Block

-- whether a byte is a digit from 1 to 9 (49 to 57), which names a switch
abbrev pub is_switch : ℕ → Bool
is_switch b = nat_le 49 b && nat_le b 57

-- where the byte after b stands, by where b stands: a comment ends at 41 or at the line's end
abbrev pub spot_behind : Spot → ℕ → Spot
spot_behind Head b = spot_behind_head b
spot_behind Slash b = if is_gap b then Slash else if is_switch b then Head else spot_behind_head b
spot_behind Note b = if b == 41 || b == 10 then Head else Note
spot_behind Block b = if b == 10 then Head else Block

-- the switch that a byte names after a skip sign: a digit from 1 to 9, else 1 (48 is the digit 0)
abbrev pub switch_by : ℕ → ℕ
switch_by b = if is_switch b then b - 48 else 1

-- the switches named so far, with that of a skip sign that ends before the byte b: bit n is switch n
abbrev pub named_behind : Spot → ℕ → ℕ → ℕ
named_behind Head b named = named
named_behind Slash b named = if is_gap b then named else bit_or named (2 ^ switch_by b)
named_behind Note b named = named
named_behind Block b named = named

-- the switches that a text names from here on, and these besides; its end ends a line
abbrev pub named_from : Spot → ℕ → List ℕ → ℕ
named_from spot named [] = named_behind spot 10 named
named_from spot named (b ∷ bs) = named_from (spot_behind spot b) (named_behind spot b named) bs

-- the switches that the blocks of a tape name by a skip sign at their head: bit n is switch n
abbrev pub named_switches : List ℕ → ℕ
named_switches text = named_from Head 0 text

-- the named switches that no line fixes as on or off
abbrev pub free_of : ℕ → ℕ → ℕ → ℕ
free_of on off named = bit_and named (65535 - bit_or on off)

-- the switches that a tape of the pair names and whose path has them free
abbrev pub free_switches : Asked → Cell → ℕ
free_switches asked cell =
    bit_or (free_of (slice_index cell.skips 0) (slice_index cell.unskips 0) (named_switches asked.texts.left))
    (free_of (slice_index cell.skips 1) (slice_index cell.unskips 1) (named_switches asked.texts.right))

-- whether only free switches are on at a position
abbrev pub is_position : ℕ → ℕ → Bool
is_position free position = bit_or position free == free

-- the positions from 1 to a number, in rising order; at 0 no free switch is on
abbrev pub positions_to : ℕ → ℕ → List ℕ
positions_to zero free = []
positions_to (suc n) free = positions_to n free ++ (if is_position free (suc n) then suc n ∷ [] else [])

-- the switches of a path that are on at a position: those that are fixed as on, and those of the
-- position that are not fixed as off
abbrev pub switches_at : ℕ → ℕ → ℕ → ℕ
switches_at position on off = bit_or on (bit_and position (65535 - off))

-- the cell with the switches of both paths as they are at a position
abbrev pub cell_at : ℕ → Cell → Cell
cell_at position cell = record cell {
  skips =
      switches_at position (slice_index cell.skips 0) (slice_index cell.unskips 0)
      ∷ switches_at position (slice_index cell.skips 1) (slice_index cell.unskips 1) ∷ [];
}

-- the cell at a position, or the line of the settings that is not allowed
abbrev pub cell_or_line : ℕ → Result Cell ℕ → Result Cell ℕ
cell_or_line position (Ok cell) = Ok (cell_at position cell)
cell_or_line position (Err line) = Err line

-- the cell of a question at its position, or the line of the settings that is not allowed
abbrev pub cell_of : Asked → Result Cell ℕ
cell_of asked = cell_or_line asked.position (settings_of asked.texts.settings)
