-- 65 and 66 are exactly what denies one list of labels. For the law
-- `a_tape_has_one_list_where_no_wait_is_at_fault` (src/order.rt).
use Rattle.flow_laws.proofs.Unforked.{exact}
use Rattle.flow_laws.proofs.order.a_tape_has_one_list_where_no_wait_is_at_fault.Goals as goal

pub returns : goal.returns
returns c = exact
