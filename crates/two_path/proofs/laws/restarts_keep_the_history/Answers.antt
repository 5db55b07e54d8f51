-- Over each list of events and restarts the machine stays the fold of a legal history
-- (src/laws.rt).
use Rattle.two_path.proofs.Kept.{kept_over_restarts}
use Rattle.two_path.proofs.laws.restarts_keep_the_history.Goals as goal

pub returns : goal.returns
returns c = kept_over_restarts
