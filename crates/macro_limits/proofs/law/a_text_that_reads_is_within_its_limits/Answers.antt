-- A macro expression or statement of the grammar has no number with too many digits and opens no
-- sixth bracket (`a_text_that_reads_is_within_its_limits`, src/law.rt).
use Rattle.macro_limits.proofs.Grammar.{expression_limits, statement_limits}
use Rattle.macro_limits.proofs.law.a_text_that_reads_is_within_its_limits.Goals as goal

pub returns-clause-expressions : goal.returns-clause-expressions
returns-clause-expressions c = expression_limits

pub returns-clause-statements : goal.returns-clause-statements
returns-clause-statements c = statement_limits
