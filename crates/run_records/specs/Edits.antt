-- An edit as the four numbers that its record has: what is set, by its kind and its number, and two
-- numbers for what it gets. Spelling has their bytes. No other crate cites it; callers meet
-- `IsEdit` in what is true of every record (`IsEntry`, Spelling).
use Rattle.std.specs.Prelude.{ℕ, ◌≤◌, ◌==◌, ℤ, pos, Option, Some, None, if◌then◌else◌}
use Rattle.std.specs.Option.{option_map, option_and_then}
use Rattle.std.specs.Ordering.{int_eq}
use Rattle.nc_number.specs.Position.{IsPosition}
use Rattle.nc_number.specs.Range.{InRange, is_in_range}
use Rattle.nc_number.specs.declared.point.Point.{Point}
use Rattle.nc_number.specs.declared.point.TheConstants.{TOOL_OFFSETS}
use Rattle.nc_number.specs.declared.value.Var.{Var}
use Rattle.nc_number.specs.declared.value.Var.TheVariants.{Vacant, Is}
use Rattle.offset_store.specs.Numbers.{work_number, tool_number}
use Rattle.offset_store.specs.Table.{offset_of}
use Rattle.offset_store.specs.declared.number.TheConstants.{LAST_WORK}
use Rattle.offset_store.specs.declared.slot.Slot.{Slot}
use Rattle.offset_store.specs.declared.slot.Slot.TheVariants.{Work, Geometry, Wear}
use Rattle.common_vars.specs.Common.{IsCommon, common_number}
use Rattle.run_records.specs.declared.edit.Edit.{Edit}
use Rattle.run_records.specs.declared.edit.Edit.TheVariants.{Offset, Common}
use Rattle.run_records.specs.declared.numbers.EditNumbers.{EditNumbers}

-- there is an offset of this number
abbrev pub IsSlot : Slot → Type 0
IsSlot (Work n) = n ≤ LAST_WORK
IsSlot (Geometry n) = (1 ≤ n) × (n ≤ TOOL_OFFSETS)
IsSlot (Wear n) = (1 ≤ n) × (n ≤ TOOL_OFFSETS)

-- a variable may be this: vacant, or a value in range
abbrev pub IsVar : Var → Type 0
IsVar Vacant = Unit {0}
IsVar (Is value) = InRange value

-- what is true of every edit: what it sets is there, and what that gets is in its range
abbrev pub IsEdit : Edit → Type 0
IsEdit (Offset slot to) = IsSlot slot × IsPosition to
IsEdit (Common variable to) = IsCommon variable × IsVar to

-- the numbers of an edit of an offset: 1 a work offset, 2 a geometry offset, 3 a wear offset; its
-- number; X and Z in 0.001 mm
abbrev pub offset_numbers : Slot → Point → EditNumbers
offset_numbers (Work n) to = record { what = 1; number = n; a = to.x; b = to.z }
offset_numbers (Geometry n) to = record { what = 2; number = n; a = to.x; b = to.z }
offset_numbers (Wear n) to = record { what = 3; number = n; a = to.x; b = to.z }

-- the numbers of an edit of a common variable: 4; its number; 0 and 0 if it is made vacant, 1 and
-- its millionths if it gets a value
abbrev pub variable_numbers : ℕ → Var → EditNumbers
variable_numbers variable Vacant = record { what = 4; number = variable; a = pos 0; b = pos 0 }
variable_numbers variable (Is value) = record { what = 4; number = variable; a = pos 1; b = value }

-- the four numbers of an edit
abbrev pub numbers_of : Edit → EditNumbers
numbers_of (Offset slot to) = offset_numbers slot to
numbers_of (Common variable to) = variable_numbers variable to

-- the offset that the first two numbers of an edit name, if there is one
abbrev pub slot_of : ℕ → ℕ → Option Slot
slot_of what number =
    if what == 1 then option_map Work (work_number (pos number))
    else if what == 2 then option_map Geometry (tool_number (pos number))
    else if what == 3 then option_map Wear (tool_number (pos number))
    else None

-- what a variable gets by the last two numbers of an edit, if it may be that
abbrev pub var_of : ℤ → ℤ → Option Var
var_of a b =
    if int_eq a (pos 0) then (if int_eq b (pos 0) then Some Vacant else None)
    else if int_eq a (pos 1) then (if is_in_range b then Some (Is b) else None)
    else None

-- the edit of an offset that these numbers are, if they name one and X and Z are in their range
abbrev pub offset_edit : EditNumbers → Option Edit
offset_edit numbers =
    option_and_then (λ slot. option_map (Offset slot) (offset_of (record { x = numbers.a; z = numbers.b })))
    (slot_of numbers.what numbers.number)

-- the edit of a variable that these numbers are, if it is a common one and may be that
abbrev pub variable_edit : EditNumbers → Option Edit
variable_edit numbers =
    option_and_then (λ variable. option_map (Common variable) (var_of numbers.a numbers.b)) (common_number numbers.number)

-- the edit of four numbers, if they are those of one
abbrev pub edit_with : EditNumbers → Option Edit
edit_with numbers = if numbers.what == 4 then variable_edit numbers else offset_edit numbers
