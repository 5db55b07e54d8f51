-- For `words_name`: the words that the loop has passed do not name the variable, so the rest
-- decides (loop of src/naming.rt).
use Rattle.std.proofs.Common.{◌≡◌, drop}
use Rattle.named_vars.specs.Names.{words_name}
use Rattle.race_report.proofs.naming.words_name.Given as goal

abbrev pub invariant-loop-word : goal.invariant-loop-word
invariant-loop-word l = words_name (drop l.word-index l.words) l.variable ≡ words_name l.words l.variable
