-- An accepted pair may go to another thread, as its tapes and its settings may (src/crossing.rt).
use denote.Param.SendFields.{declared_send}
use Rattle.nc_verify.specs.contracts.verified.Verified.{the_type}
use Rattle.turret_run.proofs.crossing.pair_crosses.Goals as goal

pub returns : goal.returns
returns c = let flow = c.flow_crosses.ensures in declared_send the_type (flow, (flow, (c.settings_cross.ensures, tt)))
