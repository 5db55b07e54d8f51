-- What stands behind a word is the rest of a text that begins with it. For the contract of `behind`
-- (src/statement.rt).
use Rattle.macro_expr.proofs.Prefixes.{behind_prefix}
use Rattle.open_forms.proofs.statement.behind.Goals as goal

pub returns : goal.returns
returns c = behind_prefix c.args.word.now c.args.text.now c.strip_prefix.result c.strip_prefix.ensures.cases
