-- `order_of` tells the first fault of the order, by its line and number (src/ordering.rt).
use Rattle.open_order.proofs.ordering.order_of.Goals as goal

pub returns-in-Err-Fault-clause-first : goal.returns-in-Err-Fault-clause-first
returns-in-Err-Fault-clause-first c =
    let fault = c.in-Err-Fault.fault in
    let first = rw c.in-Err-Fault.field-0-is at c.in-Err-Fault.ensures.first in
    (fault.cause, first, c.number.ensures)
