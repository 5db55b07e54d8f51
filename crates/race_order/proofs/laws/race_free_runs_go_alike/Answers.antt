-- Over flows of which each comes to one list of labels: if no part of one path may write a shared
-- variable that the same part of the other names, what each path does in one run is how it begins
-- in any other (src/laws.rt).
use Rattle.race_order.proofs.Flows.{race_free_go_alike}
use Rattle.race_order.proofs.laws.race_free_runs_go_alike.Goals as goal

pub returns : goal.returns
returns c = race_free_go_alike
