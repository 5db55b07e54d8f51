-- Two records of a journal whose bytes begin one list are the same, and no cause says that they are
-- none (a law of src/laws.rt).
use Rattle.run_records.proofs.OneSpelling.{one_entry, no_cause}
use Rattle.run_records.proofs.laws.an_entry_has_one_spelling.Goals as goal

pub returns-clause-one : goal.returns-clause-one
returns-clause-one c = one_entry

pub returns-clause-read_again : goal.returns-clause-read_again
returns-clause-read_again c = no_cause
