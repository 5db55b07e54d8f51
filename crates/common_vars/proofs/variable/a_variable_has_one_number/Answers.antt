-- Each variable has one number, and each number one variable at most (a law of src/variable.rt).
use Rattle.common_vars.proofs.VariableNumbers.{one_number}
use Rattle.common_vars.proofs.variable.a_variable_has_one_number.Goals as goal

pub returns : goal.returns
returns c = one_number
