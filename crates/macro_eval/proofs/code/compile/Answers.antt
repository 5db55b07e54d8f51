-- The instructions are the code of the expression's tree, and the stack has room for its operands,
-- as the type `Code` asks (`compile`, src/code.rt).
use Rattle.std.proofs.Common.{◌<◌, rules}
use Rattle.macro_expr.specs.Tree.{tree_of, right_depth}
use Rattle.macro_eval.proofs.Compiled.{is_code}
use Rattle.macro_eval.proofs.code.compile.Goals as goal

pub invariant_of-result : goal.invariant_of-result
invariant_of-result c =
    let shallow : right_depth (tree_of c.args.tree.now) < 16 = search rules in
    is_code c.in_ok-instrs.instrs.items (tree_of c.args.tree.now) c.in_ok-instrs.ensures shallow
