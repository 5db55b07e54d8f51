-- A tape without faults of waits has one list of labels. For the law
-- `a_tape_without_faults_is_unforked` (src/laws.rt).
use Rattle.block_order.proofs.Faultless.{faultless_unforked}
use Rattle.block_order.proofs.laws.a_tape_without_faults_is_unforked.Goals as goal

pub returns : goal.returns
returns c = faultless_unforked
