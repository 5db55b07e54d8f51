-- What becomes of one line of a form more. For the loop of `push_written` (src/walk.rt).
use Rattle.std.proofs.Common.{◌≡◌, ℕ, List, [], ◌∷◌, ◌++◌, Option, refl, ap, sym, ◌∙◌, append_assoc}
use Rattle.std.specs.Prelude.{slice_get}
use Rattle.std.proofs.lemmas.List.{append-nil}
use Rattle.plain_form.specs.declared.answer.WrittenLine.{WrittenLine}
use Rattle.plain_blocks.specs.declared.step.Step.{Step}
use Rattle.plain_blocks.specs.declared.targets.Stand.{Stand}
use Rattle.plain_blocks.specs.Walk.{next_place, replaced_by, replaced_from}

-- the place behind so many lines
abbrev pub place_behind : ℕ → List WrittenLine → ℕ
place_behind place [] = place
place_behind place (line ∷ lines) = place_behind (next_place place) lines

-- one line more is one place more
pub place_more : (place : ℕ) (lines : List WrittenLine) (line : WrittenLine)
    → place_behind place (lines ++ line ∷ []) ≡ next_place (place_behind place lines)
place_more place [] line = refl
place_more place (first ∷ lines) line = place_more (next_place place) lines line

-- one line more is its step more
pub step_more : (stands : List Stand) (place : ℕ) (lines : List WrittenLine) (line : WrittenLine)
    → replaced_from stands place (lines ++ line ∷ [])
    ≡ replaced_from stands place lines ++ replaced_by (slice_get stands (place_behind place lines)) line
step_more stands place [] line = append-nil (replaced_by (slice_get stands place) line)
step_more stands place (first ∷ lines) line =
    ap (λ rest. replaced_by (slice_get stands place) first ++ rest) (step_more stands (next_place place) lines line)
    ∙ sym (append_assoc (replaced_by (slice_get stands place) first) (replaced_from stands (next_place place) lines)
    (replaced_by (slice_get stands (place_behind (next_place place) lines)) line))

-- the steps with one line more, by those before it and by the block that was found in its place
pub with_one : (stands : List Stand) (start place : ℕ) (old steps new : List Step) (lines : List WrittenLine) (line : WrittenLine)
    (found : Option Stand) → new ≡ steps ++ replaced_by found line → found ≡ slice_get stands place
    → steps ≡ old ++ replaced_from stands start lines → place ≡ place_behind start lines
    → new ≡ old ++ replaced_from stands start (lines ++ line ∷ [])
with_one stands start place old steps new lines line found added is so_far at =
    added
    ∙ ap (λ own. steps ++ replaced_by own line) is
    ∙ ap (λ own. own ++ replaced_by (slice_get stands place) line) so_far
    ∙ ap (λ own. (old ++ replaced_from stands start lines) ++ replaced_by (slice_get stands own) line) at
    ∙ append_assoc old (replaced_from stands start lines) (replaced_by (slice_get stands (place_behind start lines)) line)
    ∙ ap (λ own. old ++ own) (sym (step_more stands start lines line))

-- the place behind one line more, by the place before it
pub behind_one : (start place : ℕ) (lines : List WrittenLine) (line : WrittenLine) → place ≡ place_behind start lines
    → next_place place ≡ place_behind start (lines ++ line ∷ [])
behind_one start place lines line at = ap next_place at ∙ sym (place_more start lines line)
