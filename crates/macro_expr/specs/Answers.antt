-- What is answered for the text of a macro expression or statement, as it stands on the tape: the
-- contract of `parse_expr` and `parse_statement` (src/parse.rt).
use Rattle.std.specs.Prelude.{◌≤◌, ℕ, false, List, Result}
use Rattle.nc_number.specs.declared.limits.TheConstants.{MOST_READS}
use Rattle.macro_expr.specs.declared.tree.ExprFault.{ExprFault}
use Rattle.macro_expr.specs.Tree.{Tree, Sentence}
use Rattle.macro_expr.specs.Grammar.{IsExpression, IsStatement}
use Rattle.macro_expr.specs.Statements.{expression_at, statement_at, whole_reading}
use Rattle.macro_expr.specs.Limits.{clean_text, variable_signs, answer}

-- the text, cleaned, is an expression with this tree, and has no more than 32 `#`
abbrev pub HasTree : List ℕ → Tree → Type 0
HasTree text tree = IsExpression (clean_text false text) tree × (variable_signs (clean_text false text) ≤ MOST_READS)

-- the text, cleaned, is a statement with this tree, and has no more than 32 `#`
abbrev pub HasSentence : List ℕ → Sentence → Type 0
HasSentence text sentence = IsStatement (clean_text false text) sentence × (variable_signs (clean_text false text) ≤ MOST_READS)

-- the answer for a text that should be an expression: its tree, or its refusal
abbrev pub expression_of : List ℕ → Result Tree ExprFault
expression_of text = answer (clean_text false text) (whole_reading (expression_at (clean_text false text)))

-- the answer for a text that should be a statement: its tree, or its refusal
abbrev pub statement_of : List ℕ → Result Sentence ExprFault
statement_of text = answer (clean_text false text) (whole_reading (statement_at (clean_text false text)))
