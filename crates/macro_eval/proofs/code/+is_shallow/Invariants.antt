-- Right operands of the part that is left stand at most `room` deep exactly if those of the tree
-- do; each call on a right operand has less room (loop of `is_shallow`, src/code.rt).
use Rattle.std.proofs.Common.{◌≡◌, nat_le}
use Rattle.macro_expr.specs.Tree.{tree_of, right_depth}
use Rattle.macro_eval.proofs.code.+is_shallow.Given as goal

abbrev pub decreases-is_shallow : goal.decreases-is_shallow
decreases-is_shallow l = l.room

abbrev pub invariant-loop-part : goal.invariant-loop-part
invariant-loop-part l = nat_le (right_depth (tree_of l.part)) l.room ≡ nat_le (right_depth (tree_of l.tree)) l.room
