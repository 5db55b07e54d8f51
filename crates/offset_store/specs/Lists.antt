-- Lists of offsets, each at the place of its number. Other crates take `offset_at` from Table.
use Rattle.std.specs.Prelude.{ℕ, List, slice_index_or}
use Rattle.nc_number.specs.declared.point.Point.{Point}
use Rattle.nc_number.specs.Position.{IsPosition, origin}

-- the offset of a number, and the origin past the end of the list
abbrev pub offset_at : List Point → ℕ → Point
offset_at offsets n = slice_index_or offsets n origin

-- each offset may be a position
abbrev pub ArePositions : List Point → Type 0
ArePositions offsets = (n : ℕ) → IsPosition (offset_at offsets n)
