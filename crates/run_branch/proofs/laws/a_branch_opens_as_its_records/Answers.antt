-- A disk that stands for a branch opens as its header and records (the law
-- `a_branch_opens_as_its_records`, src/laws.rt).
use Rattle.run_branch.proofs.Opened.{opened}
use Rattle.run_branch.proofs.laws.a_branch_opens_as_its_records.Goals as goal

pub returns : goal.returns
returns g c = λ before after header entries n bytes result reads is finds.
    opened c.a_journal_stands_for_one_thing.ensures header entries n bytes is (g.E.Disk.state before) (g.E.Disk.state after) result reads finds
