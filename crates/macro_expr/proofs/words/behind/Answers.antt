-- What the prefix search of `behind` (src/words.rt) finds is what stands after the word, if the
-- text begins with it.
use Rattle.macro_expr.proofs.Prefixes.{behind_prefix}
use Rattle.macro_expr.proofs.words.behind.Goals as goal

pub returns : goal.returns
returns c = behind_prefix c.args.word.now c.args.text.now c.strip_prefix.result c.strip_prefix.ensures.cases
