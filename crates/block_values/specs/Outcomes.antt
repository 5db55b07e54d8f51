-- How a step of a block ends: with a value and the reads that are left, with the need of a shared
-- variable, or with an alarm. Each definition of what words and operands say answers so. `reads`
-- are the values of shared variables that were read for the block so far: each step takes from
-- their front those that it needs.
use Rattle.std.specs.Prelude.{ℕ, List, Result, Ok, Err, ℤ, pos}
use Rattle.nc_number.specs.declared.cause.Cause.{Cause}
use Rattle.nc_number.specs.declared.value.Var.{Var}
use Rattle.nc_number.specs.Causes.{cause_number}
use Rattle.macro_expr.specs.Tree.{Tree}
use Rattle.macro_eval.specs.declared.scope.Eval.TheVariants.{Got, Need, Fault}
use Rattle.macro_eval.specs.declared.scope.Look.{Look}
use Rattle.macro_eval.specs.declared.scope.VarFault.{VarFault}
use Rattle.macro_eval.specs.Meaning.{Answer, meaning}

-- how a step of a block ends
pub data Outcome (A : Type 0) : Type 0 where
  -- it gives a value; `left` are those of the values read for the block that no step has taken yet
  Gives : (value : A) → (left : List Var) → Outcome A
  -- it can't go on before this shared variable is read
  Needs : (variable : ℕ) → Outcome A
  -- it raises an alarm: its number, and its value, which is 0 but for alarm 33
  Alarms : (number : ℕ) → (value : ℤ) → Outcome A

infixl 10 ◌>>=◌
-- one step and then another, with the reads that the first one left
abbrev pub ◌>>=◌ : {A B : Type 0} → Outcome A → (A → List Var → Outcome B) → Outcome B
(Gives value left) >>= next = next value left
(Needs variable) >>= next = Needs variable
(Alarms number value) >>= next = Alarms number value

-- the alarm of a cause, with value 0
abbrev pub alarm : {A : Type 0} → Cause → Outcome A
alarm cause = Alarms (cause_number cause) (pos 0)

-- an answer that took no read of a shared variable, as an outcome
abbrev pub reading_none : {A : Type 0} → Result A Cause → List Var → Outcome A
reading_none (Ok value) left = Gives value left
reading_none (Err cause) left = alarm cause

-- the answer of an expression as an outcome
abbrev pub outcome_of_answer : Answer → Outcome Var
outcome_of_answer (Got value, left) = Gives value left
outcome_of_answer (Need variable, left) = Needs variable
outcome_of_answer (Fault number, left) = Alarms number (pos 0)

-- the value of an expression, by what a table says of each variable
abbrev pub value_with : (ℕ → Result Look VarFault) → Tree → List Var → Outcome Var
value_with table tree reads = outcome_of_answer (meaning table tree reads)
