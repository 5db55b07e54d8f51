-- Which writes are refused, and by which alarm: of a variable that is protected, and of one that
-- does not exist.
-- For the law `a_protected_variable_is_not_written` (src/refusing.rt) alone.
use Rattle.std.specs.Prelude.{◌≡◌, ◌↔◌, ℕ, List, None, true}
use Rattle.nc_number.specs.declared.cause.Cause.TheVariants.{Protected, VariableRange}
use Rattle.nc_number.specs.declared.value.Var.{Var}
use Rattle.common_vars.specs.declared.variable.Variable.{Variable}
use Rattle.common_vars.specs.Variables.{is_protected}
use Rattle.macro_expr.specs.Tree.{Fixed as Numbered}
use Rattle.block_values.specs.Outcomes.{alarm}
use Rattle.block_values.specs.Readings.{variable_in}
use Rattle.path_state.specs.View.{Fixed, PathView}
use Rattle.path_state.specs.Statements.{variable_named, outcome_of_write}

-- The writes that are refused, and by which alarm; a law for readers, on which no crate rests
pub record WritesAreRefused : Type 0 where
  -- a write raises alarm 31 exactly if the variable is protected
  pub protected : (fixed : Fixed) (path : PathView) (variable : Variable) (value : Var) (left : List Var)
      → (outcome_of_write fixed path variable value left ≡ alarm Protected) ↔ (is_protected variable ≡ true)
  -- a left side whose number is written out raises alarm 30 exactly if that names no variable
  pub missing : (fixed : Fixed) (path : PathView) (number : ℕ) (reads : List Var)
      → (variable_named fixed path (Numbered number) reads ≡ alarm VariableRange)
      ↔ (variable_in path.modal number ≡ None)
