-- A held table may go to another thread if its disk may (src/crossing.rt).
use denote.Param.{param}
use Rattle.turret_run.proofs.TablesCross.{held_sent}
use Rattle.turret_run.proofs.crossing.held_crosses.Goals as goal

pub returns : goal.returns
returns g c = held_sent (param 0 g.row.D) (param 1 g.row.O) g.D.Disk g.O.Opening c.table_crosses.ensures
