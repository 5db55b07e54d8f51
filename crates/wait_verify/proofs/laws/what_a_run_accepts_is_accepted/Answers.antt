-- A pair of plain texts that a run accepts is accepted for its waits, by the lemma of Widened
-- (src/laws.rt).
use Rattle.wait_verify.proofs.Widened.{widened}
use Rattle.wait_verify.proofs.laws.what_a_run_accepts_is_accepted.Goals as goal

pub returns : goal.returns
returns c = widened c.what_reads_in_full_leads_where_it_said.ensures c.the_statements_of_a_tape_are_clean.ensures
