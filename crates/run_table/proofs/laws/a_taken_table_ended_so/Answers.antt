-- The run of a table that is taken out of a held one ended by the cause by which it ended while it
-- was held (src/laws.rt).
use Rattle.run_table.proofs.EndsTold.{taken_ended}
use Rattle.run_table.proofs.laws.a_taken_table_ended_so.Goals as goal

pub returns : goal.returns
returns g c = λ start taken held end since calm is at. taken_ended g.D.Disk.state start taken held since calm is end at
