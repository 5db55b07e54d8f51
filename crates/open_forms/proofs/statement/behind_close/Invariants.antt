-- With so many brackets open, the rest holds the answer of the whole text. What the loop of
-- `behind_close` keeps (src/statement.rt).
use Rattle.std.proofs.Common.{◌≡◌, ◌+◌, ◌≤◌, length}
use Rattle.open_forms.specs.Statements.{behind_close}
use Rattle.open_forms.proofs.statement.behind_close.Given as goal

abbrev pub invariant-loop-rest : goal.invariant-loop-rest
invariant-loop-rest l = record {
  same : behind_close l.more l.rest ≡ behind_close 0 l.text;
  few : l.more + length l.rest ≤ length l.text;
}

abbrev pub decreases-loop-rest : goal.decreases-loop-rest
decreases-loop-rest l = length l.rest
