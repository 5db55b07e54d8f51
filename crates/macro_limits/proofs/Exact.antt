-- Which refusal is answered for a macro expression or statement, by the cases of what is read and
-- of which limits are passed. For the law `each_limit_has_its_refusal` (src/law.rt).
use Rattle.std.proofs.Common.{◌≡◌, ◌↔◌, ℕ, ◌==◌, ◌&&◌, Bool, true, false, not, cond, List, Result, Ok, Err, refl, sym, ◌∙◌, ap, eqb-true, eq-eqb}
use Rattle.std.proofs.lemmas.Bool.{and_parts, and_from, true≢false}
use Rattle.nc_number.proofs.Bools.{not_true}
use Rattle.nc_number.specs.declared.cause.Cause.{Cause}
use Rattle.nc_number.specs.declared.cause.Cause.TheVariants.{TooManyDigits, TooManyBrackets, TooManyVariables}
use Rattle.nc_number.specs.Causes.{cause_number}
use Rattle.macro_expr.specs.declared.tree.ExprFault.{ExprFault}
use Rattle.macro_expr.specs.declared.stop.Stop.{Stop}
use Rattle.macro_expr.specs.declared.stop.Stop.TheVariants as stop
use Rattle.macro_expr.specs.Limits.{has_long_number, has_deep_brackets, has_many_variables, refusal, cause_beside, answer}
use Rattle.macro_expr.specs.Statements.{expression_at, statement_at, whole_reading}
use Rattle.macro_expr.proofs.StatementsSound.{whole_reading-expression-sound, whole_reading-statement-sound}
use Rattle.macro_limits.specs.Refused.{IsWithinLimits, stops_before_variables, IsRefusedByLimits}
use Rattle.macro_limits.proofs.Grammar.{expression_limits, statement_limits}

-- the number of a refusal, or 0 if there is none
abbrev number_in : {A : Type 0} → Result A ExprFault → ℕ
number_in (Ok x) = 0
number_in (Err fault) = fault.number

-- the refusal of this number
abbrev fault_of : ℕ → ExprFault
fault_of n = record { number = n }

-- a refusal is told by its number: the answer is the refusal of a cause exactly if it has the
-- number of that cause
told : {A : Type 0} (cause : Cause) (r : Result A ExprFault) → (cause_number cause == 0) ≡ false
    → (r ≡ Err (refusal cause)) ↔ ((number_in r == cause_number cause) ≡ true)
told cause (Ok x) some = (
  λ e. absurd (let never : ⊥ = cc in never),
  λ e. absurd (true≢false (sym (eq-eqb (cause_number cause) 0 (sym (eqb-true 0 (cause_number cause) e))) ∙ some)),
)
told {A} cause (Err fault) some = (
  λ e. eq-eqb fault.number (cause_number cause) (ap (λ (r : Result A ExprFault). number_in r) e),
  λ e. ap (λ n. Err (fault_of n)) (eqb-true fault.number (cause_number cause) e),
)

-- that the number is 5, 21 or 25 exactly as the limits say; the flags: too many digits, too deep,
-- too many variables, a stop for 22, 23 or 24
abbrev Told : ℕ → Bool → Bool → Bool → Bool → Type 0
Told n long deep many below =
    ◌≡◌ {A = Bool × Bool × Bool} (n == 5, n == 21, n == 25)
    (long, not long && deep, (not long && not deep) && (many && not below))

-- if reading stops, the number is as the limits say
told_stop : (A : Type 0) (stop : Stop) (long deep many : Bool)
    → Told
    (cond long (refusal TooManyDigits) (cond deep (refusal TooManyBrackets) (refusal (cause_beside many stop)))).number
    long deep many (stops_before_variables {A = A} (Err stop))
told_stop A stop true deep many = refl
told_stop A stop false true many = refl
told_stop A stop.Expression false false true = refl
told_stop A stop.Expression false false false = refl
told_stop A stop.Condition false false true = refl
told_stop A stop.Condition false false false = refl
told_stop A stop.Function false false true = refl
told_stop A stop.Function false false false = refl
told_stop A stop.Loop false false true = refl
told_stop A stop.Loop false false false = refl
told_stop A stop.Sequence false false true = refl
told_stop A stop.Sequence false false false = refl

-- if the text reads and is within its limits, the number is as the limits say
told_tree : {A : Type 0} (x : A) (long deep many : Bool) → long ≡ false → deep ≡ false
    → Told (number_in (cond many (Err (refusal TooManyVariables)) (Ok x))) long deep many false
told_tree x true deep many short shallow = absurd (true≢false short)
told_tree x false true many short shallow = absurd (true≢false shallow)
told_tree x false false true short shallow = refl
told_tree x false false false short shallow = refl

-- whether or not the text reads, the number of its answer is as the limits say
told_answer : {A : Type 0} (text : List ℕ) (read : Result A Stop) → ((x : A) → read ≡ Ok x → IsWithinLimits text)
    → Told (number_in (answer text read)) (has_long_number text) (has_deep_brackets text) (has_many_variables text)
    (stops_before_variables read)
told_answer text (Ok x) within =
    let limits = within x refl in
    told_tree x (has_long_number text) (has_deep_brackets text) (has_many_variables text) limits.0 limits.1
told_answer {A} text (Err stop) within =
    told_stop A stop (has_long_number text) (has_deep_brackets text) (has_many_variables text)

-- the answer is refused by the limits exactly as they say
refused : {A : Type 0} (text : List ℕ) (read : Result A Stop) → ((x : A) → read ≡ Ok x → IsWithinLimits text)
    → IsRefusedByLimits text read (answer text read)
refused text read within =
    let long = has_long_number text in
    let deep = has_deep_brackets text in
    let many = has_many_variables text in
    let below = stops_before_variables read in
    let row = told_answer text read within in
    let five = ap (λ q. q.0) row in
    let deeper = ap (λ q. q.1) row in
    let more = ap (λ q. q.2) row in
    let digits = told TooManyDigits (answer text read) refl in
    let brackets = told TooManyBrackets (answer text read) refl in
    let variables = told TooManyVariables (answer text read) refl in
    record {
      digits = (λ e. sym five ∙ digits.0 e, λ e. digits.1 (five ∙ e));
      brackets = (
        λ e. let parts = and_parts (not long) deep (sym deeper ∙ brackets.0 e) in (not_true long parts.0, parts.1),
        λ is. brackets.1 (deeper ∙ and_from _ _ (ap not is.0) is.1),
      );
      variables = (
        λ e.
            let parts = and_parts (not long && not deep) (many && not below) (sym more ∙ variables.0 e) in
            let limits = and_parts (not long) (not deep) parts.0 in
            let named = and_parts many (not below) parts.1 in
            ((not_true long limits.0, not_true deep limits.1), named.0, not_true below named.1),
        λ is.
            let limits = and_from _ _ (ap not is.0.0) (ap not is.0.1) in
            variables.1 (more ∙ and_from _ _ limits (and_from _ _ is.1 (ap not is.2))),
      );
    }

-- an expression is refused by the limits exactly as they say: what reads has a tree of the grammar
pub expression_refused : (text : List ℕ)
    → IsRefusedByLimits text (whole_reading (expression_at text)) (answer text (whole_reading (expression_at text)))
expression_refused text =
    refused text (whole_reading (expression_at text)) (λ e read. expression_limits text e (whole_reading-expression-sound text e read))

-- a statement is refused by the limits exactly as they say
pub statement_refused : (text : List ℕ)
    → IsRefusedByLimits text (whole_reading (statement_at text)) (answer text (whole_reading (statement_at text)))
statement_refused text =
    refused text (whole_reading (statement_at text)) (λ s read. statement_limits text s (whole_reading-statement-sound text s read))
