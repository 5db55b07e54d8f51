-- For the proof of `cause_of` (src/end_line.rt): the cause of a number is the one that the table of
-- causes has for it.
use Rattle.move_list.proofs.CauseByNumber.{cause_by_number}
use Rattle.move_list.proofs.end_line.cause_of.Goals as goal

pub returns : goal.returns
returns c = cause_by_number c.args.number c.of_number.result c.of_number.ensures.number c.of_number.ensures.found
