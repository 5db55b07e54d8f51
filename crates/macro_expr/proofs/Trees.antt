-- From what the reading of a macro expression or statement gives to what a call answers: a tree is
-- answered exactly if it was read and the text names at most 32 variables. For `parse_expr` and
-- `parse_statement` (src/parse.rt).
use Rattle.std.proofs.Common.{◌≡◌, ◌≤◌, ℕ, Bool, true, false, cond, List, Result, Ok, Err, IfOk, refl, ◌∙◌, ap, subst}
use Rattle.std.proofs.lemmas.Bool.{ltb-false, le-ltb}
use Rattle.nc_number.specs.declared.cause.Cause.TheVariants.{TooManyVariables}
use Rattle.nc_number.specs.declared.fault.Failing.{Failing}
use Rattle.nc_number.specs.Answers.{Gives}
use Rattle.macro_expr.specs.declared.tree.ExprFault.{ExprFault}
use Rattle.macro_expr.specs.declared.stop.Stop.{Stop}
use Rattle.macro_expr.specs.Limits.{variable_signs, has_many_variables, refusal, answer}

-- what holds of each tree that is read from a text with few variables holds of the tree that is
-- answered
pub has : {A X : Type 0} (view : X → A) (text : List ℕ) (read : Result A Stop) (r : Result X (Failing ExprFault))
    → Gives view r (answer text read) → (P : A → Type 0)
    → ((e : A) → read ≡ Ok e → variable_signs text ≤ 32 → P e) → IfOk r (λ x. P (view x))
has view text read (Err e) gives P make = tt
has view text (Err s) (Ok x) gives P make = absurd (let no : ⊥ = cc in no)
has {A} view text (Ok y) (Ok x) gives P make = go (has_many_variables text) refl gives
  where
    go : (many : Bool) → has_many_variables text ≡ many
        → cond many (Err (refusal TooManyVariables)) (Ok y) ≡ Ok (view x) → P (view x)
    go true many gives = absurd (let no : ⊥ = cc in no)
    go false few gives =
        let same : y ≡ view x = cc in make (view x) (ap Ok same) (ltb-false 32 (variable_signs text) few)

-- a tree that is read, of a text that names few variables, is answered
pub only : {A X : Type 0} (view : X → A) (text : List ℕ) (read : Result A Stop) (r : Result X (Failing ExprFault))
    → Gives view r (answer text read) → (e : A) → read ≡ Ok e → variable_signs text ≤ 32 → Gives view r (Ok e)
only view text read r gives e is few =
    let answers : answer text read ≡ Ok e =
    ap (answer text) is
    ∙ ap (λ m. cond m (Err (refusal TooManyVariables)) (Ok e)) (le-ltb 32 (variable_signs text) few) in
    subst (Gives view r) answers gives
