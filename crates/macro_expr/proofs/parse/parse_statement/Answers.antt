-- What `parse_statement` (src/parse.rt) answers: the tree is that of the grammar, each text with a
-- tree gets it, right operands stand at most 12 deep, no more variables are named than in the text,
-- and its numbers are in range.
use Rattle.std.proofs.Common.{◌≤◌, false}
use Rattle.std.specs.List.{All}
use Rattle.macro_expr.specs.Tree.{sentence_of, right_depth, trees_of_sentence, variables_in, IsInRange}
use Rattle.macro_expr.specs.Statements.{statement_at, whole_reading}
use Rattle.macro_expr.specs.Limits.{clean_text, variable_signs}
use Rattle.macro_expr.specs.Answers.{HasSentence}
use Rattle.macro_expr.proofs.Kept.{statement_kept}
use Rattle.macro_expr.proofs.StatementsComplete.{whole_statement_read}
use Rattle.macro_expr.proofs.StatementsSound.{whole_reading-statement-sound}
use Rattle.macro_expr.proofs.Trees.{has, only}
use Rattle.macro_expr.proofs.parse.parse_statement.Goals as goal

pub returns : goal.returns
returns c =
    let text = clean_text false c.args.text.now in
    let read = whole_reading (statement_at text) in
    let call = c.answer_statement in
    let is = whole_reading-statement-sound text in
    record {
      found =
          has sentence_of text read call.result call.ensures (HasSentence c.args.text.now)
          (λ s was few. (is s was, few));
      only = λ s has. only sentence_of text read call.result call.ensures s (whole_statement_read text s has.0) has.1;
      exact = call.ensures;
      shallow =
          has sentence_of text read call.result call.ensures (λ s. All (λ e. right_depth e ≤ 12) (trees_of_sentence s))
          (λ s was few. (statement_kept text s (is s was)).0.shallow);
      named =
          has sentence_of text read call.result call.ensures (λ s. variables_in (trees_of_sentence s) ≤ variable_signs text)
          (λ s was few. (statement_kept text s (is s was)).0.named);
      ranges =
          has sentence_of text read call.result call.ensures IsInRange
          (λ s was few. (statement_kept text s (is s was)).1);
    }
