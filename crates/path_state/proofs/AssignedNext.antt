-- An assignment whose variable is known does what is left: the variable takes the value. For
-- `assigned` (src/statements.rt).
use Rattle.std.proofs.Common.{◌≡◌, List, refl, ap, ◌∙◌}
use Rattle.nc_number.specs.declared.value.Var.{Var}
use Rattle.common_vars.specs.declared.variable.Variable.{Variable}
use Rattle.macro_expr.specs.Tree.{Tree, Named}
use Rattle.path_state.specs.View.{Fixed, PathView}
use Rattle.block_values.specs.Outcomes.{Outcome, Gives, Needs, Alarms, ◌>>=◌}
use Rattle.path_state.specs.Said.{value_of_tree}
use Rattle.path_state.specs.Statements.{After, variable_named, outcome_of_write, then_next, assigned_next}
use Rattle.path_state.specs.StatementSteps.{taken_next}

-- steps one after another may be bracketed either way: the first two and then the last, or the
-- first and then the other two
in_turn : {A B C : Type 0} → (step : Outcome A) (next : A → List Var → Outcome B) (last : B → List Var → Outcome C)
    → ((step >>= next) >>= last) ≡ (step >>= λ value left. next value left >>= last)
in_turn (Gives value left) next last = refl
in_turn (Needs variable) next last = refl
in_turn (Alarms number value) next last = refl

-- if the left side names this variable, the assignment is that the variable takes the value
pub assigned_by : (fixed : Fixed) (path : PathView) (name : Named) (tree : Tree) (reads left : List Var) (variable : Variable)
    → variable_named fixed path name reads ≡ Gives variable left
    → assigned_next fixed path name tree reads ≡ taken_next fixed path variable tree left
assigned_by fixed path name tree reads left variable is =
    ap (λ (step : Outcome Variable).
    (step >>= λ v behind_name. value_of_tree fixed path tree behind_name >>= λ value rest. outcome_of_write fixed path v value rest)
    >>= λ (after : After) rest. Gives (then_next after) rest) is
    ∙ in_turn (value_of_tree fixed path tree left) (λ value rest. outcome_of_write fixed path variable value rest)
    (λ after rest. Gives (then_next after) rest)
