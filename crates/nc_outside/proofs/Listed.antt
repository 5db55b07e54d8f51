-- Two lists of calls of a stepper in a row: what they answered for the turret, and the last answer. For the law
-- `calls_add_up` (src/laws.rt).
use Rattle.std.proofs.Common.{◌≡◌, refl, ap, sym, ◌∙◌, List, [], ◌∷◌, ◌++◌, Option, Some, append_assoc}
use Rattle.nc_outside.specs.declared.halt.Next.{Next}
use Rattle.nc_outside.specs.declared.stepper.Call.{Call}
use Rattle.nc_outside.specs.Calls.{last_answer_behind, told_at, told_by}

-- what they answered for the turret is that of the first list and then that of the second
pub told_by_both : (before behind : List Call) → told_by (before ++ behind) ≡ told_by before ++ told_by behind
told_by_both [] behind = refl
told_by_both (Call.Step path answer ∷ before) behind =
    ap (λ told. told_at answer ++ told) (told_by_both before behind) ∙ sym (append_assoc (told_at answer) (told_by before) (told_by behind))
told_by_both (Call.Drained path count ∷ before) behind = told_by_both before behind
told_by_both (Call.Halt why ∷ before) behind = told_by_both before behind

-- the last answer is that of the second list, or of the first if it has none
pub last_of_both : (old : Option Next) (before behind : List Call)
    → last_answer_behind old (before ++ behind) ≡ last_answer_behind (last_answer_behind old before) behind
last_of_both old [] behind = refl
last_of_both old (Call.Step path answer ∷ before) behind = last_of_both (Some answer) before behind
last_of_both old (Call.Drained path count ∷ before) behind = last_of_both old before behind
last_of_both old (Call.Halt why ∷ before) behind = last_of_both old before behind
