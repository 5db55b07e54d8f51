-- What the operands of a statement come to, by what a table says of each variable: the variable on
-- the left side, a condition, the sequence number of a jump.
use Rattle.std.specs.Prelude.{ℕ, Bool, List, Option, Some, None, Result, Ok, Err, ℤ, pos, negsuc}
use Rattle.nc_number.specs.declared.cause.Cause.{Cause}
use Rattle.nc_number.specs.declared.cause.Cause.TheVariants.{VariableRange, NoSequence}
use Rattle.nc_number.specs.declared.value.Var.{Var}
use Rattle.nc_number.specs.Arithmetic.{nearest_quotient}
use Rattle.nc_number.specs.Variables.{or_zero}
use Rattle.common_vars.specs.declared.variable.Variable.{Variable}
use Rattle.modal_state.specs.View.{ModalView}
use Rattle.macro_expr.specs.declared.tree.Rel.{Rel}
use Rattle.macro_expr.specs.Tree.{Tree, Named, Fixed as Numbered, Computed, Test, Aim, ToNumber, ToNumberOf}
use Rattle.macro_eval.specs.declared.scope.Look.{Look}
use Rattle.macro_eval.specs.declared.scope.VarFault.{VarFault}
use Rattle.macro_eval.specs.Meaning.{whole_number, variable_number}
use Rattle.macro_eval.specs.Relations.{holds_of}
use Rattle.block_values.specs.Outcomes.{Outcome, Gives, ◌>>=◌, reading_none, value_with}
use Rattle.block_values.specs.Readings.{variable_in}

-- the variable that was found for a number, or alarm 30 if none was
abbrev pub variable_or_fault : Option Variable → Result Variable Cause
variable_or_fault None = Err VariableRange
variable_or_fault (Some variable) = Ok variable

-- the variable of a computed number, or the alarm for which there is no such number
abbrev pub number_named : ModalView → Result ℕ Cause → Result Variable Cause
number_named modal (Ok n) = variable_or_fault (variable_in modal n)
number_named modal (Err cause) = Err cause

-- the variable on the left side of an assignment, whose number is evaluated if it is not written
-- out. Alarms: those of the number, and 30 if there is no such variable.
abbrev pub variable_with : (ℕ → Result Look VarFault) → ModalView → Named → List Var → Outcome Variable
variable_with table modal (Numbered n) reads = reading_none (variable_or_fault (variable_in modal n)) reads
variable_with table modal (Computed tree) reads =
    value_with table tree reads >>= λ value left. reading_none (number_named modal (variable_number value)) left

-- millimetres as a length in 0.001 mm, to the nearest, halves away from zero
abbrev pub length_of : Var → ℤ
length_of value = nearest_quotient (or_zero value) (pos 1000)

-- whether a condition holds whose left side is evaluated already
abbrev pub relation_with : (ℕ → Result Look VarFault) → Rel → Var → Tree → List Var → Outcome Bool
relation_with table rel left tree reads = value_with table tree reads >>= λ right rest. Gives (holds_of rel left right) rest

-- whether a condition holds; its left side is evaluated before its right one
abbrev pub condition_with : (ℕ → Result Look VarFault) → Test → List Var → Outcome Bool
condition_with table test reads =
    value_with table test.left reads >>= λ left behind_left. relation_with table test.rel left test.right behind_left

-- a computed sequence number: the alarm of a value that is not whole, and 50 of one below 0, which
-- no block can have
abbrev pub sequence_number : Result ℤ Cause → Result ℕ Cause
sequence_number (Ok (pos n)) = Ok n
sequence_number (Ok (negsuc n)) = Err NoSequence
sequence_number (Err cause) = Err cause

-- the sequence number to which a jump goes
abbrev pub sequence_with : (ℕ → Result Look VarFault) → Aim → List Var → Outcome ℕ
sequence_with table (ToNumber n) reads = Gives n reads
sequence_with table (ToNumberOf tree) reads =
    value_with table tree reads >>= λ value left. reading_none (sequence_number (whole_number value)) left
