-- An offset that is read or set, and what the words of G10 make of it.
use Rattle.std.specs.Prelude.{if◌then◌else◌, slice_set, ℤ, ◌+ℤ◌, Option, Some, None, Result, Ok, Err}
use Rattle.nc_number.specs.declared.point.Point.{Point}
use Rattle.nc_number.specs.Position.{is_position}
use Rattle.nc_number.specs.declared.axis.Axis.{Axis}
use Rattle.nc_number.specs.declared.axis.Axis.TheVariants.{Keep, To, By}
use Rattle.offset_store.specs.declared.fault.OffsetFault.{OffsetFault}
use Rattle.nc_number.specs.declared.cause.Cause.TheVariants.{PositionRange}
use Rattle.offset_store.specs.Faults.{fault}
use Rattle.offset_store.specs.declared.slot.Slot.{Slot}
use Rattle.offset_store.specs.declared.slot.Slot.TheVariants.{Work, Geometry, Wear}
use Rattle.offset_store.specs.Table.{OffsetTable, offset_at}

-- the offset of a slot
abbrev pub point_at : OffsetTable → Slot → Point
point_at o (Work n) = offset_at o.work n
point_at o (Geometry n) = offset_at o.geometry n
point_at o (Wear n) = offset_at o.wear n

-- the offsets after the one of a slot was set to a point
abbrev pub with_point : OffsetTable → Slot → Point → OffsetTable
with_point o (Work n) to = record o { work = slice_set o.work n to }
with_point o (Geometry n) to = record o { geometry = slice_set o.geometry n to }
with_point o (Wear n) to = record o { wear = slice_set o.wear n to }

-- a part of an offset with its word read: X and Z set, U and W add
abbrev pub changed_part : ℤ → Axis → ℤ
changed_part now Keep = now
changed_part now (To length) = length
changed_part now (By length) = now +ℤ length

-- an offset with the words of both axes read
abbrev pub changed_point : Point → Axis → Axis → Point
changed_point now x z = record { x = changed_part now.x x; z = changed_part now.z z }

-- alarm 41 (PositionRange) of a point past the range, else none
abbrev pub position_fault : Point → Option OffsetFault
position_fault to = if is_position to then None else Some (fault PositionRange)

-- the point, or alarm 41 if it is past the range
abbrev pub in_range : Point → Result Point OffsetFault
in_range to = if is_position to then Ok to else Err (fault PositionRange)
