-- A tape is accepted exactly if it reads and has one list of labels. For the law
-- `a_tape_is_accepted_exactly_with_one_list` (src/tape.rt).
use Rattle.flow_laws.proofs.ByOneList.{by_one_list}
use Rattle.flow_laws.proofs.tape.a_tape_is_accepted_exactly_with_one_list.Goals as goal

pub returns : goal.returns
returns c = by_one_list c.a_tape_has_one_list_where_no_wait_is_at_fault.ensures
