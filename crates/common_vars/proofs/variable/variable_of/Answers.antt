-- What `variable_of` names by a number is what the table of specs/Variables.antt names
-- (src/variable.rt).
use Rattle.common_vars.proofs.VariableNumbers.{settled}
use Rattle.common_vars.proofs.variable.variable_of.Goals as goal

pub returns : goal.returns
returns c = settled c.args.number c.named_by.result c.named_by.ensures.named c.named_by.ensures.number c.named_by.ensures.none
