-- `apply_into`: behind the record of an edit that is done again each waiting path still stands on a
-- wait (src/machine.rt).
use Rattle.two_path.proofs.machine.Machine.apply_into.Goals as goal

pub returns-in-Some-clause-waits : goal.returns-in-Some-clause-waits
returns-in-Some-clause-waits c = c.edit_again.ensures.waits c.args.left.now.order c.args.right.now.order c.requires.waits
