-- `names`: the instructions of an expression's code may read just the variables that its tree names
-- (src/naming.rt).
use Rattle.std.proofs.Common.{◌∙◌, ap}
use Rattle.race_report.specs.Reads.{some_read}
use Rattle.race_report.proofs.TreeReads.{tree_reads}
use Rattle.race_report.proofs.naming.names.Goals as goal

pub returns : goal.returns
returns c = c.some_read.ensures ∙ (ap (λ code. some_read code c.args.variable) c.instrs.ensures.all ∙ tree_reads c.args.code.now c.args.variable)
