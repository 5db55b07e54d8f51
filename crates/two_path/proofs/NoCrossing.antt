-- No step of a block raises the alarm of waits that differ, which the machine alone raises: the
-- numbers of alarms, and what an expression comes to. `another alarm` here is each one but that.
-- For the other files NoCrossing.., and so for the law `no_block_says_that_waits_differ`
-- (src/laws.rt).
use Rattle.std.proofs.Common.{◌≡◌, ℕ, ◌==◌, Bool, true, false, List, [], ◌∷◌, Option, Some, None, Result, Ok, Err, ℤ, unsigned_abs, refl, if◌then◌else◌}
use Rattle.std.specs.Int.{is_negative}
use Rattle.nc_number.specs.declared.cause.Cause.{Cause}
use Rattle.nc_number.specs.declared.cause.Cause.TheVariants.{VariableRange, WaitDiffers}
use Rattle.nc_number.specs.declared.fault.NumberFault.{NumberFault}
use Rattle.nc_number.specs.declared.fault.NumberFault.TheVariants as fault
use Rattle.nc_number.specs.declared.value.Var.{Var}
use Rattle.nc_number.specs.Arithmetic.{whole_of}
use Rattle.nc_number.specs.Causes.{cause_number, cause_of_number_fault}
use Rattle.nc_number.specs.Variables.{or_zero}
use Rattle.macro_expr.specs.Tree.{Tree, Number, Variable, VariableOf, Signed, Applied, Joined}
use Rattle.macro_eval.specs.declared.scope.Look.{Look}
use Rattle.macro_eval.specs.declared.scope.Look.TheVariants as look
use Rattle.macro_eval.specs.declared.scope.VarFault.{VarFault}
use Rattle.macro_eval.specs.declared.scope.Eval.{Eval}
use Rattle.macro_eval.specs.declared.scope.Eval.TheVariants.{Got, Need, Fault}
use Rattle.macro_eval.specs.Meaning.{Answer, eval_of_number, function_value, operator_value, whole_or_alarm, whole_number, named_by, variable_number, answer_of_look, looked_by, looked_up, then_with, meaning}
use Rattle.path_state.specs.View.{Fixed, PathView}
use Rattle.path_state.specs.Looks.{look_of}
use Rattle.block_values.specs.Outcomes.{Outcome, Gives, Needs, Alarms, ◌>>=◌, reading_none, outcome_of_answer}
use Rattle.path_state.specs.Said.{value_of_tree}

-- the number of another alarm than that of waits that differ
abbrev pub IsOther : ℕ → Type 0
IsOther number = (number == cause_number WaitDiffers) ≡ false

-- an error, if there is one, is another alarm
abbrev pub IsOtherError : {A E : Type 0} → (E → ℕ) → Result A E → Type 0
IsOtherError number (Ok value) = Unit {0}
IsOtherError number (Err error) = IsOther (number error)

-- a cause of the table of alarms, if there is one, is that of another alarm
abbrev pub IsOtherCause : {A : Type 0} → Result A Cause → Type 0
IsOtherCause r = IsOtherError cause_number r

-- the alarm of a step, if there is one, is another
abbrev pub IsOtherAlarm : {A : Type 0} → Outcome A → Type 0
IsOtherAlarm (Gives value left) = Unit {0}
IsOtherAlarm (Needs variable) = Unit {0}
IsOtherAlarm (Alarms number value) = IsOther number

-- what holds of two answers holds of the one that a test picks
pub either : {A : Type 0} (P : A → Type 0) (b : Bool) (x y : A) → P x → P y → P (if b then x else y)
either P true x y one other = one
either P false x y one other = other

-- if each alarm of a step and of the next is another one, so is each of both together
pub alarm_behind : {A B : Type 0} (step : Outcome A) (next : A → List Var → Outcome B) → IsOtherAlarm step
    → ((value : A) (left : List Var) → IsOtherAlarm (next value left)) → IsOtherAlarm (step >>= next)
alarm_behind (Gives value left) next first further = further value left
alarm_behind (Needs variable) next first further = tt
alarm_behind (Alarms number value) next first further = first

-- a step that takes no read raises another alarm, if its cause is one
pub none_other : {A : Type 0} (r : Result A Cause) → IsOtherCause r → (left : List Var) → IsOtherAlarm (reading_none r left)
none_other (Ok value) other left = tt
none_other (Err cause) other left = other

-- a fault of a number is another alarm
fault_other : (f : NumberFault) → IsOther (cause_number (cause_of_number_fault f))
fault_other fault.Overflow = refl
fault_other fault.ZeroDivide = refl
fault_other fault.NegativeRoot = refl
fault_other fault.NotWhole = refl
fault_other fault.TooManyDigits = refl

-- the fault of a number that must be whole is another alarm
whole_other : (n : Option ℤ) → IsOtherCause (whole_or_alarm n)
whole_other (Some n) = tt
whole_other None = refl

-- a value that must be whole raises another alarm, if any
pub whole_number_other : (v : Var) → IsOtherCause (whole_number v)
whole_number_other v = whole_other (whole_of (or_zero v))

-- a number that names no variable raises another alarm
named_by_other : (n : Result ℤ Cause) → IsOtherCause n → IsOtherCause (named_by n)
named_by_other (Ok n) other =
    either (λ (r : Result ℕ Cause). IsOtherCause r) (is_negative n) (Err VariableRange) (Ok (unsigned_abs n)) refl tt
named_by_other (Err cause) other = other

-- a value that must name a variable raises another alarm, if any
pub variable_number_other : (v : Var) → IsOtherCause (variable_number v)
variable_number_other v = named_by_other (whole_number v) (whole_number_other v)

-- the alarm of an expression, if there is one, is another
abbrev IsOtherEval : Eval → Type 0
IsOtherEval (Got v) = Unit {0}
IsOtherEval (Need n) = Unit {0}
IsOtherEval (Fault n) = IsOther n

-- one evaluation behind another raises another alarm, if any, if each of the two does
answer_behind : (a : Answer) (next : Var → List Var → Answer) → IsOtherEval a.0
    → ((v : Var) (left : List Var) → IsOtherEval (next v left).0) → IsOtherEval (then_with a next).0
answer_behind (Got v, left) next first further = further v left
answer_behind (Need n, left) next first further = tt
answer_behind (Fault n, left) next first further = first

-- a calculation raises another alarm, if any
made_other : (r : Result ℤ NumberFault) → IsOtherEval (eval_of_number r)
made_other (Ok z) = tt
made_other (Err f) = fault_other f

-- a look at a variable raises another alarm, if any
seen_other : (found : Result Look VarFault) (n : ℕ) (reads : List Var) → IsOtherEval (answer_of_look found n reads).0
seen_other (Ok (look.Is v)) n reads = tt
seen_other (Ok look.Shared) n [] = tt
seen_other (Ok look.Shared) n (v ∷ left) = tt
seen_other (Err f) n reads = refl

-- `table` says what each variable holds.
module _ (table : ℕ → Result Look VarFault) where
  -- a look at a variable by its computed number raises another alarm, if any
  by_other : (number : Result ℕ Cause) → IsOtherCause number → (reads : List Var)
      → IsOtherEval (looked_by table number reads).0
  by_other (Ok n) other reads = seen_other (table n) n reads
  by_other (Err cause) other reads = other

  -- the evaluation of an expression raises another alarm, if any
  meaning_other : (t : Tree) (reads : List Var) → IsOtherEval (meaning table t reads).0
  meaning_other (Number z) reads = tt
  meaning_other (Variable n) reads = seen_other (table n) n reads
  meaning_other (VariableOf e) reads =
      answer_behind (meaning table e reads) (looked_up table) (meaning_other e reads)
      (λ v left. by_other (variable_number v) (variable_number_other v) left)
  meaning_other (Signed minus e) reads =
      answer_behind (meaning table e reads) _ (meaning_other e reads) (λ v left. tt)
  meaning_other (Applied f e) reads =
      answer_behind (meaning table e reads) _ (meaning_other e reads)
      (λ v left. made_other (function_value f (or_zero v)))
  meaning_other (Joined op a b) reads =
      answer_behind (meaning table a reads) _ (meaning_other a reads)
      (λ v left. answer_behind (meaning table b left) _ (meaning_other b left)
      (λ w rest. made_other (operator_value op (or_zero v) (or_zero w))))

-- the answer of an expression, as an outcome, raises another alarm, if any
answered_other : (a : Answer) → IsOtherEval a.0 → IsOtherAlarm (outcome_of_answer a)
answered_other (Got v, left) other = tt
answered_other (Need n, left) other = tt
answered_other (Fault n, left) other = other

-- an expression of a path raises another alarm, if any
pub tree_other : (fixed : Fixed) (path : PathView) (tree : Tree) (reads : List Var)
    → IsOtherAlarm (value_of_tree fixed path tree reads)
tree_other fixed path tree reads =
    answered_other (meaning (look_of fixed path) tree reads) (meaning_other (look_of fixed path) tree reads)
