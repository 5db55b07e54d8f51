-- A number with too many digits, if there is one, begins in the rest of the text (loop of
-- `has_long_number`, src/limits.rt).
use Rattle.std.proofs.Common.{◌≡◌, [], take, drop}
use Rattle.macro_expr.specs.Limits.{long_behind}
use Rattle.macro_expr.proofs.limits.has_long_number.Given as goal

abbrev pub invariant-loop-i : goal.invariant-loop-i
invariant-loop-i l = long_behind (take l.i l.text) (drop l.i l.text) ≡ long_behind [] l.text
