-- Each table may be held, with itself as its opening (src/laws.rt).
use Rattle.run_table.proofs.FlushedShown.{opens_itself}
use Rattle.run_table.proofs.laws.a_table_opens_itself.Goals as goal

pub returns : goal.returns
returns g c = λ t. opens_itself g.D.Disk.state t g.met.D.Disk.coherent
