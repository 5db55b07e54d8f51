-- The shut gate of a file of gates stands at the offset that its bodies give (the law
-- `a_file_ends_behind_its_bodies`, src/laws.rt).
use Rattle.gate_file.proofs.Ends.{keeps_end}
use Rattle.gate_file.proofs.laws.a_file_ends_behind_its_bodies.Goals as goal

pub returns : goal.returns
returns g c = λ disk bodies end keeps. keeps_end bodies (g.D.Disk.state disk) end keeps
