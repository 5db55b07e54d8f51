-- Two tapes with one list of labels have equally many waits. For the law
-- `equal_lists_have_equally_many_waits` (src/laws.rt).
use Rattle.part_order.proofs.Counted.{waits_agree}
use Rattle.part_order.proofs.laws.equal_lists_have_equally_many_waits.Goals as goal

pub returns : goal.returns
returns c = waits_agree
