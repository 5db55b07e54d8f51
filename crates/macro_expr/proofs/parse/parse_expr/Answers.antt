-- What `parse_expr` (src/parse.rt) answers: the tree is that of the grammar, each text with a tree
-- gets it, right operands stand at most 12 deep, and no more variables are named than in the text.
use Rattle.std.proofs.Common.{◌≤◌, false}
use Rattle.macro_expr.specs.Tree.{tree_of, right_depth, variables}
use Rattle.macro_expr.specs.Statements.{expression_at, whole_reading}
use Rattle.macro_expr.specs.Limits.{clean_text, variable_signs}
use Rattle.macro_expr.specs.Answers.{HasTree}
use Rattle.macro_expr.proofs.Kept.{expression_kept}
use Rattle.macro_expr.proofs.StatementsComplete.{whole_expression_read}
use Rattle.macro_expr.proofs.StatementsSound.{whole_reading-expression-sound}
use Rattle.macro_expr.proofs.Trees.{has, only}
use Rattle.macro_expr.proofs.parse.parse_expr.Goals as goal

pub returns : goal.returns
returns c =
    let text = clean_text false c.args.text.now in
    let read = whole_reading (expression_at text) in
    let call = c.answer_expression in
    let is = whole_reading-expression-sound text in
    record {
      found = has tree_of text read call.result call.ensures (HasTree c.args.text.now) (λ e was few. (is e was, few));
      only = λ e has. only tree_of text read call.result call.ensures e (whole_expression_read text e has.0) has.1;
      exact = call.ensures;
      shallow =
          has tree_of text read call.result call.ensures (λ e. right_depth e ≤ 12)
          (λ e was few. (expression_kept text e (is e was)).deep);
      named =
          has tree_of text read call.result call.ensures (λ e. variables e ≤ variable_signs text)
          (λ e was few. (expression_kept text e (is e was)).named);
    }
