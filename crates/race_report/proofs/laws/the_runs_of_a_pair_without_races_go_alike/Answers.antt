-- The runs of an accepted pair whose list of races is empty go alike from meeting to meeting
-- (src/laws.rt).
use Rattle.race_report.proofs.OneOutcome.{all_go_alike}
use Rattle.race_report.proofs.laws.the_runs_of_a_pair_without_races_go_alike.Goals as goal

pub returns : goal.returns
returns c = all_go_alike
