-- Over flows of which each comes to one list of labels: if no part of one path may write a shared
-- variable that the same part of the other names, all runs that finish come to the same machine,
-- but for the order of records and their numbers, and to the same moves of each path (src/laws.rt).
use Rattle.race_order.proofs.Flows.{race_free_agree}
use Rattle.race_order.proofs.laws.race_free_runs_agree.Goals as goal

pub returns : goal.returns
returns c = race_free_agree
