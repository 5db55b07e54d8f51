-- An image of a journal stands for one thing (the law `a_journal_stands_for_one_thing`,
-- src/laws.rt).
use Rattle.run_journal.proofs.OneMeaning.{one_meaning}
use Rattle.run_journal.proofs.laws.a_journal_stands_for_one_thing.Goals as goal

pub returns : goal.returns
returns c = one_meaning
