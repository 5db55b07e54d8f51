-- The first fault of a tape is one line and one cause. For the law `a_tape_has_one_first_fault`
-- (src/order.rt).
use Rattle.flow_laws.proofs.FirstFault.{one_first}
use Rattle.flow_laws.proofs.order.a_tape_has_one_first_fault.Goals as goal

pub returns : goal.returns
returns c = one_first
