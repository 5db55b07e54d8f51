-- Where the axis words of a block lead, in 0.001 mm, X a diameter.
use Rattle.std.specs.Prelude.{if◌then◌else◌, ℤ, ◌+ℤ◌, Result, Ok, Err}
use Rattle.nc_number.specs.declared.point.Point.{Point}
use Rattle.nc_number.specs.Position.{is_position}
use Rattle.nc_number.specs.declared.axis.Axis.{Axis}
use Rattle.nc_number.specs.declared.axis.Axis.TheVariants.{Keep, To, By}
use Rattle.motion_track.specs.declared.fault.MotionFault.{MotionFault}
use Rattle.nc_number.specs.declared.cause.Cause.TheVariants.{PositionRange}
use Rattle.motion_track.specs.Faults.{fault}

-- where an axis word leads, in machine coordinates
abbrev pub part_of : ℤ → ℤ → Axis → ℤ
part_of at shift Keep = at
part_of at shift (To programmed) = programmed +ℤ shift
part_of at shift (By way) = at +ℤ way

-- where two axis words lead, also out of the travel
abbrev pub point_reached : Point → Point → Axis → Axis → Point
point_reached at shift x z = record { x = part_of at.x shift.x x; z = part_of at.z shift.z z }

-- a point that the machine can stand at, or alarm 41 where it is past the range
abbrev pub in_travel : Point → Result Point MotionFault
in_travel to = if is_position to then Ok to else Err (fault PositionRange)

-- where two axis words lead, if the machine can stand there
abbrev pub target_of : Point → Point → Axis → Axis → Result Point MotionFault
target_of at shift x z = in_travel (point_reached at shift x z)
