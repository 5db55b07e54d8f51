-- The rest of the text of a macro expression, with as many brackets open, decides whether they are
-- too deep (loop of `has_deep_brackets`, src/limits.rt).
use Rattle.std.proofs.Common.{◌≡◌, ◌≤◌, drop}
use Rattle.macro_expr.specs.Limits.{too_deep}
use Rattle.macro_expr.proofs.limits.has_deep_brackets.Given as goal

abbrev pub invariant-loop-b : goal.invariant-loop-b
invariant-loop-b l = (l.opened ≤ 5) × (too_deep l.opened (drop l.b-index l.text) ≡ too_deep 0 l.text)
