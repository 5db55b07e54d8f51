-- The shift of the offsets in force, the offsets at the start, and an offset that is set by its
-- number.
use Rattle.std.specs.Prelude.{ℕ, ◌==◌, if◌then◌else◌, replicate, Option, Some, ℤ, ◌+ℤ◌}
use Rattle.std.specs.Option.{option_map_or}
use Rattle.nc_number.specs.declared.point.Point.{Point}
use Rattle.nc_number.specs.Position.{origin}
use Rattle.offset_store.specs.declared.fault.OffsetFault.{OffsetFault}
use Rattle.nc_number.specs.declared.cause.Cause.TheVariants.{OffsetNumber}
use Rattle.offset_store.specs.Faults.{fault}
use Rattle.offset_store.specs.declared.slot.OffsetForm.{OffsetForm}
use Rattle.offset_store.specs.Slots.{slot_of}
use Rattle.offset_store.specs.Changes.{position_fault, with_point}
use Rattle.offset_store.specs.Table.{OffsetTable, offset_at}

-- every offset 0: seven work offsets, and geometry and wear for the numbers 0 to 64
abbrev pub no_offsets : OffsetTable
no_offsets = record { work = replicate 7 origin; geometry = replicate 65 origin; wear = replicate 65 origin }

-- the sum of two points, in 0.001 mm
abbrev pub plus : Point → Point → Point
plus a b = record { x = a.x +ℤ b.x; z = a.z +ℤ b.z }

-- the work offset in force beside the external one; for 0 there is none, and it is the origin
abbrev pub work_in_force : OffsetTable → ℕ → Point
work_in_force o work = if work == 0 then origin else offset_at o.work work

-- the shift: the sum of the external offset, the work offset in force, and the geometry and wear of
-- the tool offset in force
abbrev pub shift_of : OffsetTable → ℕ → ℕ → Point
shift_of o work offset =
    plus (plus (offset_at o.work 0) (work_in_force o work)) (plus (offset_at o.geometry offset) (offset_at o.wear offset))

-- how far from 0 a shift may be, in 0.001 mm: four times an offset
abbrev pub shift_travel : ℕ
shift_travel = 399999996

-- the alarm of an offset that is set: 40 where G10 names none by that number, else 41 past the
-- range, else none
abbrev pub set_fault : OffsetForm → ℤ → Point → Option OffsetFault
set_fault form n to =
    option_map_or (λ slot. position_fault to) (slot_of form (Some n)) (Some (fault OffsetNumber))

-- the offsets with the one set that G10 names by that number, if it names one
abbrev pub with_set : OffsetTable → OffsetForm → ℤ → Point → OffsetTable
with_set o form n to = option_map_or (λ slot. with_point o slot to) (slot_of form (Some n)) o
