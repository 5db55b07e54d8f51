-- The bodies of tools: boxes round the programmed point. X of a box is a diameter, as all X.
use Rattle.std.specs.Prelude.{ℕ, ◌==◌, Bool, ◌&&◌, List, [], ◌∷◌, ◌+ℤ◌, if◌then◌else◌}
use Rattle.nc_number.specs.declared.path.Path.{Path}
use Rattle.nc_number.specs.declared.point.Point.{Point}
use Rattle.nc_number.specs.Path.{is_same}
use Rattle.nc_number.specs.Position.{IsPosition, origin}
use Rattle.zone_area.specs.declared.area.Area.{Area}
use Rattle.zone_moves.specs.declared.body.Body.{Body}

-- the body of a tool that has none: the programmed point alone
abbrev pub bare : Area
bare = record { low = origin; high = origin }

-- the body is of this tool of the path
abbrev pub is_body_of : Path → ℕ → Body → Bool
is_body_of path tool body = is_same body.path path && body.tool == tool

-- the last body of a tool among these, or the one before them if it has none
abbrev pub last_body : Path → ℕ → Area → List Body → Area
last_body path tool before [] = before
last_body path tool before (body ∷ bodies) =
    last_body path tool (if is_body_of path tool body then body.area else before) bodies

-- the body of a tool of a path: the last of its own; else the last of tool 0; else the programmed
-- point alone
abbrev pub body_of : List Body → Path → ℕ → Area
body_of bodies path tool = last_body path tool (last_body path 0 bare bodies) bodies

-- the corners of a body are as near as a position
abbrev pub IsBodyArea : Area → Type 0
IsBodyArea area = IsPosition area.low × IsPosition area.high

-- the box of a body is in range
abbrev pub IsBody : Body → Type 0
IsBody body = IsBodyArea body.area

-- a point moved by another
abbrev pub sum_of : Point → Point → Point
sum_of p by = record { x = p.x +ℤ by.x; z = p.z +ℤ by.z }

-- an area with a body round each of its points
abbrev pub grown : Area → Area → Area
grown body area = record { low = sum_of area.low body.low; high = sum_of area.high body.high }
