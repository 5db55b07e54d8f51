-- The two paths of the machine: their numbers 1 and 2, and which is the other.
use Rattle.std.specs.Prelude.{ℕ, Bool, true, false, ◌==◌, Option, Some, None, if◌then◌else◌}
use Rattle.nc_number.specs.declared.path.Path.{Path}
use Rattle.nc_number.specs.declared.path.Path.TheVariants.{One, Two}

-- a path's number
abbrev pub number_of : Path → ℕ
number_of One = 1
number_of Two = 2

-- the path of a number, if it is 1 or 2
abbrev pub path_of : ℕ → Option Path
path_of n = if n == 1 then Some One else (if n == 2 then Some Two else None)

-- a path's place among the two, counted from 0
abbrev pub index_of : Path → ℕ
index_of One = 0
index_of Two = 1

-- the path beside this one
abbrev pub other_of : Path → Path
other_of One = Two
other_of Two = One

-- the two paths given are one and the same
abbrev pub is_same : Path → Path → Bool
is_same One One = true
is_same One Two = false
is_same Two One = false
is_same Two Two = true
