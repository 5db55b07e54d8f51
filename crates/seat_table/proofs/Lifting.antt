-- A table on the heap does what the table does. `turn_step` of a boxed table (src/turning.rt) rests
-- on it.
use Rattle.std.proofs.Common.{◌≡◌, ap, ◌∙◌, subst, Option, Some, None, MatchOption, Box}
use Rattle.std.specs.Box.{with_value}

-- A step of the table on the heap answers what the table's step answers.
pub step_lifted : {X Z R : Type 0} (b : Box X Z) (before after : X) (result : Option R) (P : X → R → Type 0) → before ≡ b.value
    → MatchOption result (after ≡ before) (P before) → MatchOption result (with_value b after ≡ b) (P b.value)
step_lifted b before after None P e same = ap (with_value b) (same ∙ e)
step_lifted b before after (Some r) P e told = subst (λ x. P x r) e told
