-- Points of the machine as places of the plane, and back. src/points.rt computes them.
use Rattle.std.specs.Prelude.{pos, ◌*ℤ◌, int_div}
use Rattle.nc_number.specs.declared.point.Point.{Point}
use Rattle.plane_ways.specs.declared.place.Place.{Place}

-- the place of a point: its diameter in 0.001 mm is the radius in 0.0005 mm
abbrev pub place_of : Point → Place
place_of p = record { across = p.x; along = pos 2 *ℤ p.z }

-- the point at a place: X a diameter, Z in 0.001 mm, toward 0
abbrev pub point_at : Place → Point
point_at at = record { x = at.across; z = int_div at.along (pos 2) }
