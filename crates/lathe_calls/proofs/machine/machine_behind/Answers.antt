-- For the proof of `machine_behind` (src/machine.rt): the machine that was made again is that after
-- the history of the pair.
use Rattle.lathe_calls.proofs.machine.machine_behind.Goals as goal

pub machine_done-requires-clause-legal : goal.machine_done-requires-clause-legal
machine_done-requires-clause-legal c = rw (c.left.ensures.same, c.right.ensures.same, c.settings.ensures) c.requires.legal

pub returns-clause-machine : goal.returns-clause-machine
returns-clause-machine c = rw (c.left.ensures.same, c.right.ensures.same, c.settings.ensures) at c.machine_done.ensures.machine
