-- Six open brackets in a macro expression are too many, so the loop may end there
-- (`has_deep_brackets`, src/limits.rt).
use Rattle.std.proofs.Common.{sym, ◌∙◌}
use Rattle.macro_expr.proofs.Scans.{deep_here}
use Rattle.macro_expr.specs.Limits.{has_deep_brackets}
use Rattle.macro_expr.proofs.limits.has_deep_brackets.Goals as goal

pub returns-in-91 : goal.returns-in-91
unfolding has_deep_brackets
returns-in-91 c =
    sym (sym c.loop-b.invariant.1
    ∙ deep_here c.args.text.now c.loop-b.b-index c.loop-b.opened c.loop-b-test.true c.in-91.is
    c.if-opened-eq-MOST_BRACKETS.true)
