-- Which offset G10 names by its P. Src/slot.rt answers it.
use Rattle.std.specs.Prelude.{◌-◌, if◌then◌else◌, Option, Some, None, Result, ok_or, ℤ, unsigned_abs}
use Rattle.offset_store.specs.declared.fault.OffsetFault.{OffsetFault}
use Rattle.std.specs.Option.{option_map}
use Rattle.nc_number.specs.declared.cause.Cause.TheVariants.{OffsetNumber}
use Rattle.nc_number.specs.declared.point.TheConstants.{TOOL_OFFSETS}
use Rattle.offset_store.specs.Faults.{fault}
use Rattle.offset_store.specs.declared.slot.Slot.{Slot}
use Rattle.offset_store.specs.declared.slot.Slot.TheVariants.{Work, Geometry, Wear}
use Rattle.offset_store.specs.declared.slot.OffsetForm.{OffsetForm}
use Rattle.offset_store.specs.declared.slot.OffsetForm.TheVariants.{WorkOffset, ToolOffset}
use Rattle.offset_store.specs.Numbers.{is_between, work_number}

-- the work offset of a number: 0 is the external one, 1 to 6 are those of G54 to G59
abbrev pub work_slot : ℤ → Option Slot
work_slot n = option_map Work (work_number n)

-- the tool offset of a number: wear is 1 to 64, geometry 10,001 to 10,064
abbrev pub tool_slot : ℤ → Option Slot
tool_slot n =
    if is_between 1 TOOL_OFFSETS n then Some (Wear (unsigned_abs n))
    else if is_between 10001 10064 n then Some (Geometry (unsigned_abs n - 10000))
    else None

-- the offset that G10 names by its P, if it names one
abbrev pub slot_of : OffsetForm → Option ℤ → Option Slot
slot_of WorkOffset (Some n) = work_slot n
slot_of ToolOffset (Some n) = tool_slot n
slot_of other None = None

-- the offset that G10 names by its P, or alarm 40 (OffsetNumber)
abbrev pub slot_named : OffsetForm → Option ℤ → Result Slot OffsetFault
slot_named form p = ok_or (slot_of form p) (fault OffsetNumber)
