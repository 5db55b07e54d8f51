-- What is left to drop of the tree of a macro expression is no larger than the whole tree (loop of
-- `drop`, src/tree.rt).
use Rattle.std.proofs.Common.{◌≤◌}
use Rattle.macro_expr.proofs.tree.Expr.TheLaws.{the_size}
use Rattle.macro_expr.proofs.tree.Expr.+drop.Given as goal

abbrev pub invariant-loop-self : goal.invariant-loop-self
invariant-loop-self l = the_size l.self ≤ the_size l.initial.self
