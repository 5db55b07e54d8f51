-- A disk whose written stretches are filled, one after another.
-- For the proof of `fill_stretches` of src/memory.rt.
use Rattle.std.proofs.Common.{◌≡◌, ◌⊎◌, inl, inr, ℕ, zero, suc, ◌+◌, ◌-◌, ◌≤◌, ◌<◌, max, List, [], ◌∷◌, ◌++◌, length, take, drop, replicate, get_or, refl, ◌∙◌, ap, arith, length-append, length-drop}
use Rattle.std.proofs.lemmas.Bool.{cases_lt}
use Rattle.std.proofs.lemmas.List.{length-take, length-replicate, get_or_append_left, get_or-append_right, get_or-take, get_or-drop, get_or-replicate}
use Rattle.disk_model.specs.declared.stretch.Stretch.{Stretch}
use Rattle.disk_model.specs.Image.{IsOutside, greatest_end}
use Rattle.disk_model.specs.Memory.{IsFilled}
use Rattle.disk_model.proofs.Images.{greatest_end-push, greatest_end-least, outside_push, push_outside}

-- a stretch ends no later than the greatest end
pub end_within : (len : ℕ) (written : List Stretch) (i : ℕ) (d : Stretch) → i < length written → (get_or written i d).at + (get_or written i d).len ≤ greatest_end len written
end_within len [] i d within = absurd (omega arith)
end_within len (w ∷ written) zero d within = omega arith
end_within len (w ∷ written) (suc i) d within = omega (arith, end_within len written i d (omega arith))

-- One stretch more is filled, `s`: `c` is the content with the stretches before it filled, `long`
-- that filled up to the end of `s`, `next` that with `s` filled.
module _ (with : ℕ) (synced : List ℕ) (written : List Stretch) (s : Stretch) (c long next : List ℕ) (filled : IsFilled with synced written c)
    (longer : long ≡ c ++ replicate (s.at + s.len - length c) with) (is : next ≡ take s.at long ++ replicate s.len with ++ drop (s.at + s.len) long) where
  -- the filled up content ends where the old one did, or where the stretch ends
  length-long : length long ≡ max (length c) (s.at + s.len)
  length-long = omega (arith, ap length longer, length-append c (replicate (s.at + s.len - length c) with), length-replicate (s.at + s.len - length c) with)

  -- before the stretch there are as many bytes as its offset says
  front : length (take s.at long) ≡ s.at
  front = omega (arith, length-take s.at long, length-long)

  -- up to the end of the stretch there are as many bytes as that end says
  middle : length (take s.at long ++ replicate s.len with) ≡ s.at + s.len
  middle = omega (arith, front, length-append (take s.at long) (replicate s.len with), length-replicate s.len with)

  -- the content with the stretch filled ends where the filled up one does
  length-next : length next ≡ max (length c) (s.at + s.len)
  length-next = omega (arith, ap length is, middle, length-append (take s.at long ++ replicate s.len with) (drop (s.at + s.len) long), length-drop (s.at + s.len) long, length-long)

  -- outside the stretch the content is the filled up one
  apart_long : (i : ℕ) → (i < s.at) ⊎ (s.at + s.len ≤ i) → get_or next i 0 ≡ get_or long i 0
  apart_long i (inl ahead) =
      ap (λ (l : List ℕ). get_or l i 0) is
      ∙ get_or_append_left (take s.at long ++ replicate s.len with) (drop (s.at + s.len) long) 0 i (omega (arith, middle))
      ∙ get_or_append_left (take s.at long) (replicate s.len with) 0 i (omega (arith, front))
      ∙ get_or-take s.at long i 0 ahead
  apart_long i (inr behind) =
      let place : s.at + s.len + (i - (s.at + s.len)) ≡ i = omega arith in
      ap (λ (l : List ℕ). get_or l i 0) is
      ∙ get_or-append_right (take s.at long ++ replicate s.len with) (drop (s.at + s.len) long) (s.at + s.len) i 0 middle behind
      ∙ get_or-drop (s.at + s.len) long (i - (s.at + s.len)) 0
      ∙ ap (λ (k : ℕ). get_or long k 0) place

  -- inside the stretch each byte is the one to fill with
  in_stretch : (i : ℕ) → s.at ≤ i → i < s.at + s.len → get_or next i 0 ≡ with
  in_stretch i from below =
      ap (λ (l : List ℕ). get_or l i 0) is
      ∙ get_or_append_left (take s.at long ++ replicate s.len with) (drop (s.at + s.len) long) 0 i (omega (arith, middle))
      ∙ get_or-append_right (take s.at long) (replicate s.len with) s.at i 0 front from
      ∙ get_or-replicate s.len (i - s.at) with 0 (omega arith)

  -- a byte of the old content stays when it is filled up
  long_old : (i : ℕ) → i < length c → get_or long i 0 ≡ get_or c i 0
  long_old i within = ap (λ (l : List ℕ). get_or l i 0) longer ∙ get_or_append_left c (replicate (s.at + s.len - length c) with) 0 i within

  -- a byte behind the old content is the one to fill with
  long_new : (i : ℕ) → length c ≤ i → i < length long → get_or long i 0 ≡ with
  long_new i past below =
      ap (λ (l : List ℕ). get_or l i 0) longer
      ∙ get_or-append_right c (replicate (s.at + s.len - length c) with) (length c) i 0 refl past
      ∙ get_or-replicate (s.at + s.len - length c) (i - length c) with 0 (omega (arith, length-long))

  -- a synced byte outside all stretches stays as it was synced
  stays : (i : ℕ) → i < length synced → IsOutside i (written ++ s ∷ []) → get_or next i 0 ≡ get_or synced i 0
  stays i within out =
      let parts = outside_push i written s out in
      apart_long i parts.1 ∙ long_old i (omega (arith, filled.len, greatest_end-least (length synced) written)) ∙ filled.outside i within parts.0

  -- outside this stretch each byte that may change is the one to fill with
  apart : (i : ℕ) → i < length next → ((i < length synced) × IsOutside i (written ++ s ∷ []) → ⊥) → (i < s.at) ⊎ (s.at + s.len ≤ i) → get_or next i 0 ≡ with
  apart i below not_out off = apart_long i off ∙ elim (cases_lt i (length c)) [
    | inl old ↦ long_old i old ∙ filled.inside i old (λ both. not_out (both.0, push_outside i written s both.1 off))
    | inr new ↦ long_new i new (omega (arith, length-next, length-long))
  ]

  -- each byte that may change is the one to fill with
  is_filled : (i : ℕ) → i < length next → ((i < length synced) × IsOutside i (written ++ s ∷ []) → ⊥) → get_or next i 0 ≡ with
  is_filled i below not_out = elim (cases_lt i s.at) [
    | inl ahead ↦ apart i below not_out (inl ahead)
    | inr from ↦ elim (cases_lt i (s.at + s.len)) [
      | inl inside ↦ in_stretch i from inside
      | inr behind ↦ apart i below not_out (inr behind)
    ]
  ]

  -- the content is filled with one stretch more
  pub filled_push : IsFilled with synced (written ++ s ∷ []) next
  filled_push = record {
    len = omega (arith, length-next, filled.len, greatest_end-push (length synced) written s);
    outside = stays;
    inside = is_filled;
  }
