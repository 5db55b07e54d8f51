-- If the lines ahead rise from the last one, all lines rise from 0. What the loop of `is_rising`
-- keeps (src/orders.rt).
use Rattle.std.proofs.Common.{drop}
use Rattle.nc_number.specs.Rising.{RiseFrom}
use Rattle.tape_vectors.proofs.orders.is_rising.Given as goal

abbrev pub invariant-loop-line : goal.invariant-loop-line
invariant-loop-line l = RiseFrom l.low (drop l.line-index l.lines) → RiseFrom 0 l.lines
