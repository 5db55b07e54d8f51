-- Nothing hides so far, and the rest decides behind the last two bytes. What the loop of
-- `hides_word` keeps (src/statement.rt).
use Rattle.std.proofs.Common.{◌≡◌, length}
use Rattle.open_forms.specs.Statements.{hides_word}
use Rattle.open_forms.proofs.statement.hides_word.Given as goal

abbrev pub invariant-loop-rest : goal.invariant-loop-rest
invariant-loop-rest l = hides_word l.two l.one l.rest ≡ hides_word 0 0 l.text

abbrev pub decreases-loop-rest : goal.decreases-loop-rest
decreases-loop-rest l = length l.rest
