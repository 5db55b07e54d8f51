-- The records of any events are a legal history, and each legal history is that of some events
-- (src/laws.rt).
use Rattle.two_path.proofs.Counted.{histories_run}
use Rattle.two_path.proofs.laws.histories_are_runs.Goals as goal

pub returns : goal.returns
returns c = histories_run
