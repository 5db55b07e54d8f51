-- Where a canned cycle ends its cut, in machine coordinates and 0.001 mm. `cycle_end` (src/end.rt)
-- answers it. The moves to there are in Cycles.
use Rattle.std.specs.Prelude.{ℤ, ◌+ℤ◌, Option, unwrap_or, Result}
use Rattle.nc_number.specs.declared.point.Point.{Point}
use Rattle.nc_number.specs.declared.axis.Axis.{Axis}
use Rattle.nc_number.specs.declared.axis.Axis.TheVariants.{Keep, To, By}
use Rattle.motion_track.specs.declared.fault.MotionFault.{MotionFault}
use Rattle.motion_track.specs.Target.{in_travel}

-- the end along one axis: without a word the kept one; an absolute word counts from the shift, an
-- incremental one from the start of the cycle, and never from the kept end
abbrev pub end_part : ℤ → ℤ → ℤ → Axis → ℤ
end_part start kept shift Keep = kept
end_part start kept shift (To programmed) = programmed +ℤ shift
end_part start kept shift (By way) = start +ℤ way

-- the end along both axes; where no end is kept from the same cycle, an axis without a word stays
-- at the start
abbrev pub end_point : Point → Option Point → Point → Axis → Axis → Point
end_point start kept shift x z =
    let rest = unwrap_or kept start in
    record { x = end_part start.x rest.x shift.x x; z = end_part start.z rest.z shift.z z }

-- where a cycle ends its cut, or alarm 41 where that is past 99,999.999 mm
abbrev pub cycle_end_of : Point → Option Point → Point → Axis → Axis → Result Point MotionFault
cycle_end_of start kept shift x z = in_travel (end_point start kept shift x z)
