-- For `contour_fault`, which looks for the first fault of a contour of a tape: it is that of the
-- programs that the loop has not passed (loop of src/cycles.rt).
use Rattle.std.proofs.Common.{◌≡◌, drop}
use Rattle.open_order.specs.Contours.{contour_fault}
use Rattle.open_order.proofs.cycles.contour_fault.Given as goal

abbrev pub invariant-loop-program : goal.invariant-loop-program
invariant-loop-program l = contour_fault l.order l.tape ≡ contour_fault l.order (drop l.program-index l.tape)
