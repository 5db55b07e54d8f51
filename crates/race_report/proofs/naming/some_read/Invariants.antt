-- For `some_read`: the instructions that the loop has passed do not read the variable, so the rest
-- decides (loop of src/naming.rt).
use Rattle.std.proofs.Common.{◌≡◌, drop}
use Rattle.race_report.specs.Reads.{some_read}
use Rattle.race_report.proofs.naming.some_read.Given as goal

abbrev pub invariant-loop-instr : goal.invariant-loop-instr
invariant-loop-instr l = some_read (drop l.instr-index l.instrs) l.variable ≡ some_read l.instrs l.variable
