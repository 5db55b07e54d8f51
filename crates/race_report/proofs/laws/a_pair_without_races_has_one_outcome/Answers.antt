-- An accepted pair whose list of races is empty comes to one outcome, whichever path has which turn
-- (src/laws.rt).
use Rattle.race_report.proofs.OneOutcome.{one_outcome}
use Rattle.race_report.proofs.laws.a_pair_without_races_has_one_outcome.Goals as goal

pub returns : goal.returns
returns c = one_outcome
