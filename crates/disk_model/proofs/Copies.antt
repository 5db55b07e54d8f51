-- The content of a disk in memory at a sync, which is copied stretch by stretch.
-- For the proof of `copy_written` of src/memory.rt.
use Rattle.std.proofs.Common.{◌≡◌, ◌⊎◌, inl, inr, ℕ, ◌+◌, ◌≤◌, ◌<◌, List, [], ◌++◌, length, take, drop, get_or, sym, ◌∙◌, ap, subst, arith, take-append-drop}
use Rattle.std.proofs.lemmas.Bool.{cases_lt}
use Rattle.std.proofs.lemmas.List.{drop_more, length-take-le, get_or-take}
use Rattle.std.proofs.lemmas.Grind.{same_number_lists}
use Rattle.disk_model.specs.declared.stretch.Stretch.{Stretch}
use Rattle.disk_model.specs.Image.{IsOutside}

-- outside the stretches that are left to copy, the content is as in `from`, which it is to become
pub record IsCopied (from : List ℕ) (left : List Stretch) (content : List ℕ) : Type 0 where
  -- the content is no longer than what it is to become
  pub no_longer : length content ≤ length from
  -- outside the stretches that are left they have the same bytes
  pub same : (i : ℕ) → i < length content → IsOutside i left → get_or content i 0 ≡ get_or from i 0

-- when one stretch more is copied, one less is left to copy
pub copied_more : (from old new : List ℕ) (written : List Stretch) (k : ℕ) (none : Stretch) → k < length written → length new ≡ length old
    → ((i : ℕ) → (get_or written k none).at ≤ i → i < (get_or written k none).at + (get_or written k none).len → i < length old → get_or new i 0 ≡ get_or from i 0)
    → ((i : ℕ) → (i < (get_or written k none).at) ⊎ ((get_or written k none).at + (get_or written k none).len ≤ i) → get_or new i 0 ≡ get_or old i 0)
    → IsCopied from (drop k written) old → IsCopied from (drop (k + 1) written) new
copied_more from old new written k none within size inside outside copied =
    let s = get_or written k none in
    let left = drop_more written k none within in
    record {
      no_longer = omega (arith, size, copied.no_longer);
      same = λ i below out.
          let here : i < length old = omega (arith, size, below) in
          elim (cases_lt i s.at) [
            | inl ahead ↦ outside i (inl ahead) ∙ copied.same i here (subst (IsOutside i) (sym left) (inl ahead, out))
            | inr from_at ↦ elim (cases_lt i (s.at + s.len)) [
              | inl before ↦ inside i from_at before here
              | inr behind ↦ outside i (inr behind) ∙ copied.same i here (subst (IsOutside i) (sym left) (inr behind, out))
            ]
          ];
    }

-- with nothing left to copy, the content with what lies behind its end in `from` is `from`
pub copied_all : (from content : List ℕ) → IsCopied from [] content → content ++ drop (length content) from ≡ from
copied_all from content copied =
    let size : length content ≡ length (take (length content) from) = sym (length-take-le (length content) from copied.no_longer) in
    let front : content ≡ take (length content) from = sym (same_number_lists (take (length content) from) content (sym size)
    (λ i below. let here : i < length content = omega (arith, size, below) in get_or-take (length content) from i 0 here ∙ sym (copied.same i here tt))) in
    ap (λ (l : List ℕ). l ++ drop (length content) from) front ∙ take-append-drop (length content) from
