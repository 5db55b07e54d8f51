-- For `some_names`: the expressions that the loop has passed do not name the variable, so the rest
-- decides (loop of src/naming.rt).
use Rattle.std.proofs.Common.{◌≡◌, drop}
use Rattle.named_vars.specs.Names.{some_names}
use Rattle.race_report.proofs.naming.some_names.Given as goal

abbrev pub invariant-loop-code : goal.invariant-loop-code
invariant-loop-code l = some_names (drop l.code-index l.codes) l.variable ≡ some_names l.codes l.variable
