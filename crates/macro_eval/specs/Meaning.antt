-- What a macro expression means: its value, the shared variable that must be read next, or an
-- alarm; and the reads (values of shared variables that were read and not yet taken) that are left.
-- Numbers are in 0.000001. The contract of `evaluate` (src/running.rt).
use Rattle.std.specs.Prelude.{ℕ, Bool, List, [], ◌∷◌, Option, Some, None, Result, Ok, Err, ℤ, pos, unsigned_abs, if◌then◌else◌}
use Rattle.std.specs.Int.{is_negative}
use Rattle.nc_number.specs.declared.cause.Cause.{Cause}
use Rattle.nc_number.specs.declared.cause.Cause.TheVariants.{NotWhole, VariableRange}
use Rattle.nc_number.specs.declared.value.Var.{Var}
use Rattle.nc_number.specs.declared.value.Var.TheVariants.{Is}
use Rattle.nc_number.specs.declared.fault.NumberFault.{NumberFault}
use Rattle.nc_number.specs.Signs.{signed_number}
use Rattle.nc_number.specs.Causes.{cause_number, cause_of_number_fault}
use Rattle.nc_number.specs.Variables.{or_zero}
use Rattle.nc_number.specs.Arithmetic.{sum_of, difference_of, product_of, quotient_of, remainder_of, and_of, or_of, xor_of, root_of, rounded_value, value_toward_zero, value_from_zero, whole_of}
use Rattle.macro_expr.specs.declared.tree.Fun.{Fun}
use Rattle.macro_expr.specs.declared.tree.Fun.TheVariants.{Sqrt, Abs, Fix, Fup, Round}
use Rattle.macro_expr.specs.declared.tree.Op.{Op}
use Rattle.macro_expr.specs.declared.tree.Op.TheVariants.{Add, Sub, BitOr, BitXor, Mul, Div, BitAnd, Modulo}
use Rattle.macro_expr.specs.Tree.{Tree, Number, Variable, VariableOf, Signed, Applied, Joined}
use Rattle.macro_eval.specs.declared.scope.Look.{Look}
use Rattle.macro_eval.specs.declared.scope.Look.TheVariants as look
use Rattle.macro_eval.specs.declared.scope.VarFault.{VarFault}
use Rattle.macro_eval.specs.declared.scope.Eval.{Eval}
use Rattle.macro_eval.specs.declared.scope.Eval.TheVariants.{Got, Need, Fault}

-- The alarm with this cause's number.
abbrev pub alarm : Cause → Eval
alarm cause = Fault (cause_number cause)

-- A calculated number, or the alarm of its fault.
abbrev pub eval_of_number : Result ℤ NumberFault → Eval
eval_of_number (Ok z) = Got (Is z)
eval_of_number (Err fault) = alarm (cause_of_number_fault fault)

-- The value after a sign, which makes a vacant one 0.
abbrev pub value_with_sign : Bool → Var → Eval
value_with_sign minus v = Got (Is (signed_number minus (or_zero v)))

-- What the function makes of a number.
abbrev pub function_value : Fun → ℤ → Result ℤ NumberFault
function_value Sqrt z = root_of z
function_value Abs z = Ok (pos (unsigned_abs z))
function_value Fix z = Ok (value_toward_zero z)
function_value Fup z = value_from_zero z
function_value Round z = rounded_value z

-- What the function makes of a value; a vacant one counts as 0.
abbrev pub value_of_function : Fun → Var → Eval
value_of_function f v = eval_of_number (function_value f (or_zero v))

-- What the operator makes of two numbers.
abbrev pub operator_value : Op → ℤ → ℤ → Result ℤ NumberFault
operator_value Add a b = sum_of a b
operator_value Sub a b = difference_of a b
operator_value BitOr a b = or_of a b
operator_value BitXor a b = xor_of a b
operator_value Mul a b = product_of a b
operator_value Div a b = quotient_of a b
operator_value BitAnd a b = and_of a b
operator_value Modulo a b = remainder_of a b

-- What the operator makes of two values; a vacant one counts as 0.
abbrev pub value_of_operator : Op → Var → Var → Eval
value_of_operator op a b = eval_of_number (operator_value op (or_zero a) (or_zero b))

-- The number, or alarm 4 if there is none.
abbrev pub whole_or_alarm : Option ℤ → Result ℤ Cause
whole_or_alarm (Some n) = Ok n
whole_or_alarm None = Err NotWhole

-- The whole number that a value is, or alarm 4 if it has a fraction; a vacant one counts as 0.
abbrev pub whole_number : Var → Result ℤ Cause
whole_number v = whole_or_alarm (whole_of (or_zero v))

-- The number of a variable, or alarm 30 if it is below 0; an alarm stays.
abbrev pub named_by : Result ℤ Cause → Result ℕ Cause
named_by (Ok n) = if is_negative n then Err VariableRange else Ok (unsigned_abs n)
named_by (Err cause) = Err cause

-- The number of the variable that a calculated value names, or alarm 4 or 30.
abbrev pub variable_number : Var → Result ℕ Cause
variable_number v = named_by (whole_number v)

-- The answer of an evaluation, and the reads that are left.
abbrev pub Answer : Type 0
Answer = Eval × List Var

-- The next read, or that variable n is needed.
abbrev pub next_read : ℕ → List Var → Answer
next_read n [] = (Need n, [])
next_read n (v ∷ left) = (Got v, left)

-- What a look at variable n gives: what it holds; the next read if the paths share it; or alarm 30.
abbrev pub answer_of_look : Result Look VarFault → ℕ → List Var → Answer
answer_of_look (Ok (look.Is v)) n reads = (Got v, reads)
answer_of_look (Ok look.Shared) n reads = next_read n reads
answer_of_look (Err fault) n reads = (alarm VariableRange, reads)

-- `table` says what is known of each variable.
module _ (table : ℕ → Result Look VarFault) where
  -- What variable n gives, by what is known of each variable.
  abbrev pub looked_at : ℕ → List Var → Answer
  looked_at n reads = answer_of_look (table n) n reads

  -- What the variable gives whose number was calculated, or the alarm of that number.
  abbrev pub looked_by : Result ℕ Cause → List Var → Answer
  looked_by (Ok n) reads = looked_at n reads
  looked_by (Err cause) reads = (alarm cause, reads)

  -- What the variable gives whose number is this value.
  abbrev pub looked_up : Var → List Var → Answer
  looked_up v reads = looked_by (variable_number v) reads

-- Goes on with a value; a need or an alarm is the answer.
abbrev pub then_with : Answer → (Var → List Var → Answer) → Answer
then_with (Got v, left) next = next v left
then_with (Need n, left) next = (Need n, left)
then_with (Fault n, left) next = (Fault n, left)

-- The meaning of a tree, read from left to right. `table` says what is known of each variable, and
-- `reads` are the values of shared variables that were read and not yet taken.
abbrev pub meaning : (ℕ → Result Look VarFault) → Tree → List Var → Answer
meaning table (Number z) reads = (Got (Is z), reads)
meaning table (Variable n) reads = looked_at table n reads
meaning table (VariableOf e) reads = then_with (meaning table e reads) (looked_up table)
meaning table (Signed minus e) reads = then_with (meaning table e reads) (λ v left. (value_with_sign minus v, left))
meaning table (Applied f e) reads = then_with (meaning table e reads) (λ v left. (value_of_function f v, left))
meaning table (Joined op a b) reads =
    then_with (meaning table a reads)
    (λ v left. then_with (meaning table b left) (λ w left. (value_of_operator op v w, left)))
