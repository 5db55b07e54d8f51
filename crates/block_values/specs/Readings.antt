-- Which variable a number names under the code system in force, and how the value of a system
-- variable is counted: lengths in millimetres, codes and numbers in whole units.
use Rattle.std.specs.Prelude.{ℕ, Bool, true, Option, Some, None, is_some, ℤ, pos, if◌then◌else◌}
use Rattle.nc_number.specs.declared.value.Var.{Var}
use Rattle.nc_number.specs.declared.value.Var.TheVariants.{Vacant, Is}
use Rattle.nc_number.specs.declared.point.Point.{Point}
use Rattle.nc_number.specs.Arithmetic.{value_of_units, value_of_increments}
use Rattle.common_vars.specs.declared.variable.Variable.{Variable}
use Rattle.common_vars.specs.declared.variable.Variable.TheVariants as variable
use Rattle.common_vars.specs.declared.variable.AxisLetter.{AxisLetter}
use Rattle.common_vars.specs.declared.variable.AxisLetter.TheVariants.{X, Z}
use Rattle.common_vars.specs.Variables.{variable_of}
use Rattle.modal_state.specs.View.{ModalView}
use Rattle.modal_state.specs.Modal.{code_of}

-- whether the system in force has this variable. The code of a modal group exists only if the
-- system has the group; system B alone has that of absolute and incremental. All others exist.
abbrev pub is_there : ModalView → Variable → Bool
is_there modal (variable.Code group) = is_some (code_of modal group)
is_there modal _ = true

-- the variable, if the system in force has it
abbrev pub if_there : ModalView → Option Variable → Option Variable
if_there modal None = None
if_there modal (Some variable) = if is_there modal variable then Some variable else None

-- what a number names in the system whose codes are in force
abbrev pub variable_in : ModalView → ℕ → Option Variable
variable_in modal n = if_there modal (variable_of n)

-- a value as a variable holds it, vacant if there is none
abbrev pub or_vacant : Option ℤ → Var
or_vacant None = Vacant
or_vacant (Some value) = Is value

-- a whole number as the value of a variable; vacant if it is past the range of values
abbrev pub in_units : ℕ → Var
in_units n = or_vacant (value_of_units (pos n))

-- a length in 0.001 mm as the value of a variable, which is in millimetres; vacant if it is past
-- the range of values
abbrev pub in_millimetres : ℤ → Var
in_millimetres length = or_vacant (value_of_increments length)

-- the code of a modal group as the value of a variable; vacant if none is in force
abbrev pub code_in_force : Option ℕ → Var
code_in_force None = Vacant
code_in_force (Some code) = in_units code

-- the part of a point along this axis, in 0.001 mm
abbrev pub part : AxisLetter → Point → ℤ
part X point = point.x
part Z point = point.z
