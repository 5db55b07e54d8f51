-- The refusal of a word that does not read has a number up to 25. For LeastOfText.
use Rattle.std.proofs.Common.{◌≡◌, ℕ, ◌≤◌, Bool, true, false, if◌then◌else◌, List, Result, Ok, Err, refl, ap, arith, lit≤}
use Rattle.nc_number.specs.declared.literal.Literal.{Literal}
use Rattle.nc_number.specs.declared.fault.NumberFault.{NumberFault}
use Rattle.nc_number.specs.Causes.{cause_number}
use Rattle.nc_number.specs.declared.cause.Cause.{Cause}
use Rattle.nc_number.specs.declared.cause.Cause.TheVariants.{TooManyDigits, TooManyBrackets, TooManyVariables}
use Rattle.nc_number.specs.Literals.{is_literal, has_minus, behind_sign, word_literal}
use Rattle.line_text.specs.declared.body.Word.{Word}
use Rattle.macro_expr.specs.declared.tree.ExprFault.{ExprFault}
use Rattle.macro_expr.specs.declared.stop.Stop.{Stop}
use Rattle.macro_expr.specs.declared.stop.Stop.TheVariants as stop
use Rattle.macro_expr.specs.Tree.{Tree}
use Rattle.macro_expr.specs.Grammar.{IsExpression}
use Rattle.macro_expr.specs.Statements.{expression_at, whole_reading}
use Rattle.macro_expr.specs.Limits.{clean_text, has_many_variables, has_long_number, has_deep_brackets, refusal, refusal_of, cause_beside, answer}
use Rattle.macro_limits.specs.Refusals.{Lacks, Never}
use Rattle.macro_expr.specs.Answers.{expression_of}
use Rattle.block_words.specs.declared.word.WordValue.{WordValue}
use Rattle.block_forms.specs.Forms.{fixed_value, computed_value, value_of, word_at, word_of}

-- The law of macro_expr on where reading stops in an expression, as these lemmas take it.
abbrev pub Stops : Type 0
Stops = (text : List ℕ) (s : Stop) → whole_reading (expression_at text) ≡ Err s → Lacks IsExpression Never text s

-- An expression at which reading stops has a refusal up to 25.
stop_number : (text : List ℕ) (many : Bool) (s : Stop) → Lacks IsExpression Never text s → cause_number (cause_beside many s) ≤ 25
stop_number text true stop.Expression lacks = lit≤ tt
stop_number text false stop.Expression lacks = lit≤ tt
stop_number text true stop.Function lacks = lit≤ tt
stop_number text false stop.Function lacks = lit≤ tt
stop_number text many stop.Condition lacks = absurd lacks
stop_number text many stop.Loop lacks = absurd lacks
stop_number text many stop.Sequence lacks = absurd lacks

-- Of too many digits, too many brackets and another refusal up to 25, the one that is answered is
-- up to 25.
one_of_three : (long deep : Bool) (rest : Cause) → cause_number rest ≤ 25 → (if long then refusal TooManyDigits else if deep then refusal TooManyBrackets else refusal rest).number ≤ 25
one_of_three true deep rest small = lit≤ tt
one_of_three false true rest small = lit≤ tt
one_of_three false false rest small = small

-- A number equal to one up to 25 is up to 25.
along : (a b : ℕ) → a ≡ b → a ≤ 25 → b ≤ 25
along a b same small = omega arith

-- A fault equal to one with a number up to 25 has such a number.
fault_along : (a b : ExprFault) → a ≡ b → a.number ≤ 25 → b.number ≤ 25
fault_along a b same small = along a.number b.number (ap (λ (f : ExprFault). f.number) same) small

-- An expression that does not read has a refusal up to 25.
expression_number : Stops → (text : List ℕ) (fault : ExprFault) → expression_of text ≡ Err fault → fault.number ≤ 25
expression_number stops text fault is = go (whole_reading (expression_at (clean_text false text))) refl is
  where
    tree_answer : (many : Bool) (tree : Tree) → ◌≡◌ {A = Result Tree ExprFault} (if many then Err (refusal TooManyVariables) else Ok tree) (Err fault) → fault.number ≤ 25
    tree_answer true tree e = let same : refusal TooManyVariables ≡ fault = cc in fault_along (refusal TooManyVariables) fault same (lit≤ tt)
    tree_answer false tree e = absurd (cc)

    go : (read : Result Tree Stop) → whole_reading (expression_at (clean_text false text)) ≡ read → answer (clean_text false text) read ≡ Err fault → fault.number ≤ 25
    go (Ok tree) at e = tree_answer (has_many_variables (clean_text false text)) tree e
    go (Err s) at e =
        let same : refusal_of (clean_text false text) s ≡ fault = cc in
        let small : cause_number (cause_beside (has_many_variables (clean_text false text)) s) ≤ 25 = stop_number (clean_text false text) (has_many_variables (clean_text false text)) s (stops (clean_text false text) s at) in
        fault_along (refusal_of (clean_text false text) s) fault same (one_of_three (has_long_number (clean_text false text)) (has_deep_brackets (clean_text false text)) (cause_beside (has_many_variables (clean_text false text)) s) small)

-- A value that does not read has a refusal up to 25.
value_number : Stops → (text : List ℕ) (number : ℕ) → value_of text ≡ Err number → number ≤ 25
value_number stops text number is = go (is_literal text) is
  where
    fixed : (read : Result Literal NumberFault) → fixed_value read ≡ Err number → number ≤ 25
    fixed (Ok literal) e = absurd (cc)
    fixed (Err fault) e = let same : cause_number TooManyDigits ≡ number = cc in along (cause_number TooManyDigits) number same (lit≤ tt)

    computed : (minus : Bool) (read : Result Tree ExprFault) → expression_of (behind_sign text) ≡ read → computed_value minus read ≡ Err number → number ≤ 25
    computed minus (Ok tree) at e = absurd (cc)
    computed minus (Err fault) at e = let same : fault.number ≡ number = cc in along fault.number number same (expression_number stops (behind_sign text) fault at)

    go : (literal : Bool) → (if literal then fixed_value (word_literal text) else computed_value (has_minus text) (expression_of (behind_sign text))) ≡ Err number → number ≤ 25
    go true e = fixed (word_literal text) e
    go false e = computed (has_minus text) (expression_of (behind_sign text)) refl e

-- A word that does not read has a refusal up to 25.
pub word_number : Stops → (word : Word) (number : ℕ) → word_of word ≡ Err number → number ≤ 25
word_number stops word number is = go (value_of word.text) refl is
  where
    go : (read : Result WordValue ℕ) → value_of word.text ≡ read → word_at word.letter read ≡ Err number → number ≤ 25
    go (Ok value) at e = absurd (cc)
    go (Err own) at e = let same : own ≡ number = cc in along own number same (value_number stops word.text own at)
