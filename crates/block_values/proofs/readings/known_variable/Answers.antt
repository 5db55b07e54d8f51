-- A variable that was found by its number is one that exists, since each number names one variable
-- at most (src/readings.rt).
use Rattle.std.proofs.Common.{◌≡◌, ℕ, Option, Some, None, IfSome, sym}
use Rattle.common_vars.specs.declared.variable.Variable.{Variable}
use Rattle.common_vars.specs.Variables.{IsVariable, variable_of}
use Rattle.block_values.proofs.readings.known_variable.Goals as goal

-- a variable that was found by its number exists
found_exists : (number : ℕ) (found : Option Variable) → found ≡ variable_of number
    → ((variable : Variable) → variable_of number ≡ Some variable → IsVariable variable) → IfSome found IsVariable
found_exists number None e law = tt
found_exists number (Some variable) e law = law variable (sym e)

pub returns-clause-exists : goal.returns-clause-exists
returns-clause-exists c =
    found_exists c.args.number _ c.variable_of.ensures
    (λ variable is. ((c.a_variable_has_one_number.ensures c.args.number variable).0 is).0)
