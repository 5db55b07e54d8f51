-- A table may go to another thread if its disk may (src/crossing.rt).
use Rattle.turret_run.proofs.TablesCross.{table_sent}
use Rattle.turret_run.proofs.crossing.table_crosses.Goals as goal

pub returns : goal.returns
returns g c = table_sent _ g.D.Disk c.type_bounds.send-D c.pair_crosses.ensures c.machine_crosses.ensures c.entries_cross.ensures
