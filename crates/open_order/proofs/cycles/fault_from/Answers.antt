-- `fault_from`: the last block of a contour, if there is one, lies in the program, as `fault_between`
-- requires (src/cycles.rt).
use Rattle.std.proofs.Common.{ap, ◌∙◌, None}
use Rattle.block_order.specs.Order.{blocks}
use Rattle.open_order.specs.Contours.{last_numbered}
use Rattle.open_order.proofs.Within.{last_some}
use Rattle.open_order.proofs.cycles.fault_from.Goals as goal

pub fault_between-requires-clause-within : goal.fault_between-requires-clause-within
fault_between-requires-clause-within c =
    last_some (blocks c.args.order.now c.args.program) c.args.contour.to c.last_place-last.result
    (c.last_place-last.ensures ∙ ap (λ l. last_numbered None l 0 c.args.contour.to) c.blocks-in-Some.ensures)
