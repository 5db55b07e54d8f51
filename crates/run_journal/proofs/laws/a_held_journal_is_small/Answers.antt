-- A journal ends within the bytes of its header, its records and their gates (the law
-- `a_held_journal_is_small`, src/laws.rt).
use Rattle.run_journal.proofs.Ends.{held_end}
use Rattle.run_journal.proofs.laws.a_held_journal_is_small.Goals as goal

pub returns : goal.returns
returns g c = λ disk header version entries end. held_end header version entries (g.D.Disk.state disk) end
