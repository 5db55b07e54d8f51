-- The programs so far are those of the tape as far as their order goes (loop of `order_tape`, src/order.rt).
use Rattle.std.proofs.Common.{◌≡◌, map, take}
use Rattle.plain_blocks.specs.Order.{order_program}
use Rattle.plain_blocks.proofs.order.order_tape.Given as goal

abbrev pub invariant-loop-program : goal.invariant-loop-program
invariant-loop-program l = l.order.items ≡ map (order_program l.dialect) (take l.program-index l.tape)
