-- No order of turns of an accepted pair leads to paths that can't go on, no wait meets another, and
-- no alarm says that waits differ: not from the machine with which a run of the pair begins, nor
-- from any two paths at the starts of their tapes (the law `no_accepted_pair_is_stuck`,
-- src/laws.rt).
use Rattle.nc_restart.proofs.NeverStuck.{no_order_stuck, no_run_stuck}
use Rattle.nc_restart.proofs.laws.no_accepted_pair_is_stuck.Goals as goal

pub returns-clause-begun : goal.returns-clause-begun
returns-clause-begun c = no_run_stuck c.control_goes_as_the_flow_orders.ensures.control c.no_pair_is_stuck.ensures

pub returns-clause-any : goal.returns-clause-any
returns-clause-any c = no_order_stuck c.control_goes_as_the_flow_orders.ensures.control c.no_pair_is_stuck.ensures
