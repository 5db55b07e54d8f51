-- Where reading stops a cause stands, and where a cause of statements stands reading stops
-- (`reading_stops_for_a_cause`, src/refusals.rt).
use Rattle.macro_limits.proofs.StatementsStopping.{expression_lacks, statement_lacks, whole_statement_fails}
use Rattle.macro_limits.proofs.refusals.reading_stops_for_a_cause.Goals as goal

pub returns : goal.returns
returns c = record { expression = expression_lacks; statement = statement_lacks; exactly = whole_statement_fails }
