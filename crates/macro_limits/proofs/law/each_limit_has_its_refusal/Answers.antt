-- 5, 21 and 25 are answered exactly if their limits say so (`each_limit_has_its_refusal`,
-- src/law.rt).
use Rattle.std.proofs.Common.{false}
use Rattle.macro_expr.specs.Limits.{clean_text}
use Rattle.macro_limits.proofs.Exact.{expression_refused, statement_refused}
use Rattle.macro_limits.proofs.law.each_limit_has_its_refusal.Goals as goal

pub returns-clause-expressions : goal.returns-clause-expressions
returns-clause-expressions c = λ text. expression_refused (clean_text false text)

pub returns-clause-statements : goal.returns-clause-statements
returns-clause-statements c = λ text. statement_refused (clean_text false text)
