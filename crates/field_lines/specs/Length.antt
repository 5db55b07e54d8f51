-- The lengths of a line, in 0.001 mm, and the points of two fields. 88 and 90 are the letters X and
-- Z.
use Rattle.std.specs.Prelude.{ℕ, nat_le, if◌then◌else◌, List, [], ◌∷◌, Option, Some, None, Result, Ok, Err, ℤ, unsigned_abs, ◌==◌}
use Rattle.nc_number.specs.declared.point.Point.{Point}
use Rattle.nc_number.specs.declared.literal.Literal.{Literal}
use Rattle.nc_number.specs.declared.fault.NumberFault.{NumberFault}
use Rattle.nc_number.specs.Literals.{is_literal, word_literal}
use Rattle.nc_number.specs.Position.{travel}
use Rattle.nc_number.specs.Conversions.{thousandths_of}
use Rattle.nc_number.specs.Options.{◌>>=◌}

-- The length, if it is in the travel (99,999.999 mm either way).
abbrev pub within_travel : ℤ → Option ℤ
within_travel length = if nat_le (unsigned_abs length) travel then Some length else None

-- The length of a literal, if it could be read and is in the travel.
abbrev pub length_of_word : Result Literal NumberFault → Option ℤ
length_of_word (Ok literal) = within_travel (thousandths_of literal)
length_of_word (Err fault) = None

-- The length that a literal writes, if it is in the travel. Without a point it counts 0.001 mm.
unfoldable pub length_of : List ℕ → Option ℤ
length_of text = if is_literal text then length_of_word (word_literal text) else None

-- The length of a field that is this letter and a literal, if it is in the travel.
unfoldable pub axis_of : ℕ → List ℕ → Option ℤ
axis_of letter [] = None
axis_of letter (first ∷ text) = if first == letter then length_of text else None

-- The point of a field for X and a field for Z, if both are lengths in the travel.
unfoldable pub point_of : List ℕ → List ℕ → Option Point
point_of across along = do
  x ← axis_of 88 across
  z ← axis_of 90 along
  Some (record { x = x; z = z })
