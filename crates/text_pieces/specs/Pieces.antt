-- How numbers, points, codes, paths and the names of causes are printed.
use Rattle.std.specs.Prelude.{ℕ, if◌then◌else◌, List, [], ◌++◌, Option, Some, None, codes, decimal, nat_lt}
use Rattle.nc_number.specs.declared.cause.Cause.{Cause}
use Rattle.nc_number.specs.declared.path.Path.{Path}
use Rattle.nc_number.specs.declared.point.Point.{Point}
use Rattle.nc_number.specs.Causes.{cause_name}
use Rattle.nc_number.specs.Path.{number_of}
use Rattle.nc_number.specs.Printed.{length_text}

-- a number after these bytes
abbrev pub text_with_number : List ℕ → ℕ → List ℕ
text_with_number before number = before ++ decimal number

-- a blank and the name of a cause, and nothing without a cause
abbrev pub name_text : Option Cause → List ℕ
name_text None = []
name_text (Some cause) = codes " " ++ cause_name cause

-- a point, such as a position or an offset: X and Z in mm with three decimals
unfoldable pub point_text : Point → List ℕ
point_text to = codes " X" ++ length_text to.x ++ codes " Z" ++ length_text to.z

-- the number of a G or M code, with at least two digits
unfoldable pub code_text : ℕ → List ℕ
code_text code = if nat_lt code 10 then codes "0" ++ decimal code else decimal code

-- a path by its number, and a line of its tape, as they are printed: ` path 1 line 3`
unfoldable pub place_text : ℕ → ℕ → List ℕ
place_text path line = text_with_number (codes " path ") path ++ text_with_number (codes " line ") line

-- a path as "path" and its number
unfoldable pub path_name : Path → List ℕ
path_name path = codes "path " ++ decimal (number_of path)
