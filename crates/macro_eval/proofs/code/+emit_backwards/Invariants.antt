-- The code so far, with that of the part of the expression's tree that is left, is the tree's (loop
-- of `emit_backwards`, src/code.rt).
use Rattle.std.proofs.Common.{◌≡◌, ◌≤◌, reverse}
use Rattle.macro_expr.specs.Tree.{tree_of, right_depth}
use Rattle.macro_eval.specs.Postfix.{code_before}
use Rattle.macro_eval.proofs.code.+emit_backwards.Given as goal

-- The measure of its calls: it calls itself on right operands, in which fewer stand inside one
-- another.
abbrev pub decreases-emit_backwards : goal.decreases-emit_backwards
decreases-emit_backwards l = right_depth (tree_of l.tree.now)

-- The part is no deeper than the tree, and the code of both before what is written is the same.
abbrev pub invariant-loop-part : goal.invariant-loop-part
invariant-loop-part l =
    (right_depth (tree_of l.part) ≤ right_depth (tree_of l.tree))
    × (code_before (tree_of l.part) (reverse l.instrs.items)
    ≡ code_before (tree_of l.tree) (reverse l.initial.instrs.items))
