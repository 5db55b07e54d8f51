-- No history of an accepted pair leads to paths that can't go on, whoever made it and wherever it
-- was cut off, and no wait meets another (the law `no_history_is_stuck`, src/laws.rt).
use Rattle.nc_restart.proofs.NeverStuck.{never_stuck}
use Rattle.nc_restart.proofs.laws.no_history_is_stuck.Goals as goal

pub returns : goal.returns
returns c = never_stuck c.control_goes_as_the_flow_orders.ensures.control c.no_legal_history_is_stuck.ensures
