-- No number with too many digits begins at the byte that was passed (`has_long_number`,
-- src/limits.rt).
use Rattle.std.proofs.Common.{◌≡◌, sym, ◌∙◌, take, drop, false}
use Rattle.macro_expr.specs.Limits.{begins_long}
use Rattle.macro_expr.proofs.Scans.{long_later}
use Rattle.macro_expr.proofs.limits.has_long_number.Goals as goal

pub loop-i-preserved : goal.loop-i-preserved
loop-i-preserved c =
    let here : begins_long (take c.loop-i.i c.args.text.now) (drop c.loop-i.i c.args.text.now) ≡ false =
    rw (c.split_at.ensures.front, c.split_at.ensures.back) at (sym c.if-begins_long.ensures) in
    sym (long_later c.args.text.now c.loop-i.i c.loop-i-test.true here) ∙ c.loop-i.invariant
