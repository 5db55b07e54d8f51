-- A block that reads in full, names no interrupt and is clean leads where its open reading says.
-- For the law
-- `what_reads_in_full_leads_where_it_said` (src/laws.rt).
use Rattle.open_forms.proofs.Widened.{widened}
use Rattle.open_forms.proofs.laws.what_reads_in_full_leads_where_it_said.Goals as goal

pub returns : goal.returns
returns c = widened
