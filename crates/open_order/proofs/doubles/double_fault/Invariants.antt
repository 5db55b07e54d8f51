-- For `double_fault`: the first fault is that of the programs that the loop has not passed
-- (src/doubles.rt).
use Rattle.std.proofs.Common.{◌≡◌, drop}
use Rattle.open_order.specs.Doubles.{programs_fault}
use Rattle.open_order.proofs.doubles.double_fault.Given as goal

abbrev pub invariant-loop-program : goal.invariant-loop-program
invariant-loop-program l = programs_fault l.order l.order ≡ programs_fault l.order (drop l.program-index l.programs)
