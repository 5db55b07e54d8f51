-- The list of opening offsets keeps that each of them is in its ranges. For the proof of `set`
-- (src/preset.rt).
use Rattle.std.proofs.Common.{◌≡◌, Bool, true, false, cond, not, List, [], ◌∷◌, ◌++◌, sym, subst}
use Rattle.std.specs.Prelude.{All}
use Rattle.std.proofs.lemmas.List.Elements.{All-filter, All-push}
use Rattle.cell_settings.specs.declared.preset.Preset.{Preset}
use Rattle.cell_settings.specs.Preset.{IsPreset, is_same_place, without_place}

-- after an offset was set each offset of the list is in its ranges, with memory for the new one or
-- without
pub set_keeps : (stored : Bool) (place : Preset) (old left new : List Preset) → left ≡ without_place place old → new ≡ cond stored (left ++ place ∷ []) left → All IsPreset old → IsPreset place → All IsPreset new
set_keeps true place old left new left-is new-is all is =
    subst (All IsPreset) (sym new-is) (All-push IsPreset left place (subst (All IsPreset) (sym left-is) (All-filter (λ other. not (is_same_place other place)) IsPreset old all)) is)
set_keeps false place old left new left-is new-is all is =
    subst (All IsPreset) (sym new-is) (subst (All IsPreset) (sym left-is) (All-filter (λ other. not (is_same_place other place)) IsPreset old all))
