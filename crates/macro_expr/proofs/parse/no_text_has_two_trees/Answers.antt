-- No text has two trees, as an expression or as a statement: each is what reading gives
-- (`no_text_has_two_trees`, src/parse.rt).
use Rattle.std.proofs.Common.{◌≡◌, ℕ, List, Result, Ok}
use Rattle.macro_expr.specs.declared.stop.Stop.{Stop}
use Rattle.macro_expr.specs.Statements.{expression_at, statement_at, whole_reading}
use Rattle.macro_expr.proofs.StatementsComplete.{whole_expression_read, whole_statement_read}
use Rattle.macro_expr.proofs.parse.no_text_has_two_trees.Goals as goal

-- what is read of a text is one tree
one_tree : {A : Type 0} {Is : List ℕ → A → Type 0} (read : List ℕ → Result A Stop)
    → ((t : List ℕ) (x : A) → Is t x → read t ≡ Ok x) → (t : List ℕ) (a b : A) → Is t a → Is t b → a ≡ b
one_tree read reads t a b is_a is_b =
    let left = reads t a is_a in
    let right = reads t b is_b in
    cc

pub returns : goal.returns
returns c = record {
  expressions = one_tree (λ t. whole_reading (expression_at t)) whole_expression_read;
  statements = one_tree (λ t. whole_reading (statement_at t)) whole_statement_read;
}
