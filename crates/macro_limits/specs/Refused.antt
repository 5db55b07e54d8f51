-- Which macro expressions and statements are refused for a limit: 5 is a number of too many digits,
-- 21 a sixth open bracket, 25 too many variables. 22, 23 and 24 (a condition, a function, a loop)
-- come before 25. For the laws of src/law.rt alone.
use Rattle.std.specs.Prelude.{◌≡◌, ◌↔◌, ℕ, Bool, true, false, List, Result, Ok, Err}
use Rattle.nc_number.specs.declared.cause.Cause.TheVariants.{TooManyDigits, TooManyBrackets, TooManyVariables}
use Rattle.macro_expr.specs.declared.tree.ExprFault.{ExprFault}
use Rattle.macro_expr.specs.declared.stop.Stop.{Stop}
use Rattle.macro_expr.specs.declared.stop.Stop.TheVariants as stop
use Rattle.macro_expr.specs.Limits.{has_long_number, has_deep_brackets, has_many_variables, refusal}

-- no number has too many digits, and no sixth bracket is open
abbrev pub IsWithinLimits : List ℕ → Type 0
IsWithinLimits text = (has_long_number text ≡ false) × (has_deep_brackets text ≡ false)

-- a sixth bracket is open, and no number has too many digits
abbrev pub IsTooDeep : List ℕ → Type 0
IsTooDeep text = (has_long_number text ≡ false) × (has_deep_brackets text ≡ true)

-- whether reading stops for 22, 23 or 24, which are less than 25
abbrev pub stops_before_variables : {A : Type 0} → Result A Stop → Bool
stops_before_variables (Ok tree) = false
stops_before_variables (Err stop.Condition) = true
stops_before_variables (Err stop.Function) = true
stops_before_variables (Err stop.Loop) = true
stops_before_variables (Err stop.Expression) = false
stops_before_variables (Err stop.Sequence) = false

-- more variables are named than a block may read, and no lesser refusal holds
abbrev pub NamesTooMany : {A : Type 0} → List ℕ → Result A Stop → Type 0
NamesTooMany text read =
    IsWithinLimits text × (has_many_variables text ≡ true) × (stops_before_variables read ≡ false)

-- the answer is 5, 21 or 25 exactly where that limit says
pub record IsRefusedByLimits {A : Type 0} (text : List ℕ) (read : Result A Stop) (answer : Result A ExprFault)
    : Type 0 where
  -- 5: too many digits
  pub digits : (answer ≡ Err (refusal TooManyDigits)) ↔ (has_long_number text ≡ true)
  -- 21: too many brackets
  pub brackets : (answer ≡ Err (refusal TooManyBrackets)) ↔ IsTooDeep text
  -- 25: too many variables
  pub variables : (answer ≡ Err (refusal TooManyVariables)) ↔ NamesTooMany text read
