-- Points of the X and Z plane in 0.001 mm, and which may be a position or an offset.
use Rattle.std.specs.Prelude.{ℕ, pos, ◌≤◌, Bool, ◌&&◌, nat_le, unsigned_abs}
use Rattle.nc_number.specs.declared.point.Point.{Point}

-- how far from 0 a position or an offset may be: 99,999.999 mm
abbrev pub travel : ℕ
travel = 99999999

-- neither X nor Z of the point is farther from 0 than `far`
abbrev pub IsWithin : ℕ → Point → Type 0
IsWithin far p = (unsigned_abs p.x ≤ far) × (unsigned_abs p.z ≤ far)

-- the point may be a position of the machine, or an offset
abbrev pub IsPosition : Point → Type 0
IsPosition p = IsWithin travel p

-- the point may be a position or an offset, as a test
abbrev pub is_position : Point → Bool
is_position p = nat_le (unsigned_abs p.x) travel && nat_le (unsigned_abs p.z) travel

-- the point at 0
abbrev pub origin : Point
origin = record { x = pos 0; z = pos 0 }
