-- The lines so far and those of the programs ahead are those of the whole tape. What the loop of
-- `all_lines` keeps (src/orders.rt).
use Rattle.std.proofs.Common.{◌≡◌, ◌++◌, drop}
use Rattle.block_order.specs.Shape.{lines_in}
use Rattle.tape_vectors.proofs.orders.all_lines.Given as goal

abbrev pub invariant-loop-program : goal.invariant-loop-program
invariant-loop-program l = l.lines.items ++ lines_in (drop l.program-index l.tape) ≡ lines_in l.tape
