-- The images between two syncs, one write at a time: those with a write more are the torn ones of
-- those before. For Filled, Kept and the law `images_are_torn_writes` of src/laws.rt.
use Rattle.std.proofs.Common.{◌≡◌, ◌⊎◌, inl, inr, ℕ, ◌+◌, ◌≤◌, ◌<◌, min, max, List, [], ◌∷◌, ◌++◌, length, get_or, map, refl, sym, ◌∙◌, arith, Bool, cond, ◌&&◌}
use Rattle.std.specs.Prelude.{nat_le, nat_lt}
use Rattle.std.proofs.lemmas.Bool.{cases_lt}
use Rattle.std.proofs.lemmas.Bool.Decides.{nat_tests}
use Rattle.std.proofs.lemmas.Grind.{same_number_lists}
use Rattle.std.specs.List.{range_with_len}
use Rattle.std.proofs.lemmas.List.FromFn.{length-map-range_with_len, get_or-map-range_with_len}
use Rattle.disk_model.specs.declared.stretch.Stretch.{Stretch}
use Rattle.disk_model.specs.Device.{Torn}
use Rattle.disk_model.specs.Image.{IsImage, IsOutside, greatest_end}

-- the greatest end, with one stretch more
pub greatest_end-push : (len : ℕ) (written : List Stretch) (s : Stretch) → greatest_end len (written ++ s ∷ []) ≡ max (s.at + s.len) (greatest_end len written)
greatest_end-push len [] s = refl
greatest_end-push len (w ∷ written) s = omega (arith, greatest_end-push len written s)

-- the greatest end is not below the length
pub greatest_end-least : (len : ℕ) (written : List Stretch) → len ≤ greatest_end len written
greatest_end-least len [] = omega arith
greatest_end-least len (w ∷ written) = omega (arith, greatest_end-least len written)

-- a place outside all stretches is outside the first ones and outside the last one
pub outside_push : (i : ℕ) (written : List Stretch) (s : Stretch) → IsOutside i (written ++ s ∷ []) → IsOutside i written × ((i < s.at) ⊎ (s.at + s.len ≤ i))
outside_push i [] s out = (tt, out.0)
outside_push i (w ∷ written) s out = let rest = outside_push i written s out.1 in ((out.0, rest.0), rest.1)

-- a place outside the first stretches and outside the last one is outside all
pub push_outside : (i : ℕ) (written : List Stretch) (s : Stretch) → IsOutside i written → (i < s.at) ⊎ (s.at + s.len ≤ i) → IsOutside i (written ++ s ∷ [])
push_outside i [] s out apart = (apart, tt)
push_outside i (w ∷ written) s out apart = (out.0, push_outside i written s out.1 apart)

-- what was synced is an image
pub image_synced : (synced : List ℕ) (written : List Stretch) → IsImage synced written synced
image_synced synced written = record {
  no_shorter = omega arith;
  no_longer = greatest_end-least (length synced) written;
  outside = λ i within apart. refl;
}

-- with nothing written the only image is what was synced
pub image_only : (synced c : List ℕ) → IsImage synced [] c → c ≡ synced
image_only synced c image =
    let size : length c ≡ length synced = omega (arith, image.no_shorter, image.no_longer) in
    same_number_lists c synced size (λ i within. image.outside i (omega (arith, size)) tt)

-- an image that a further write tears is an image with that write
pub image_torn : (synced : List ℕ) (written : List Stretch) (s : Stretch) (b c : List ℕ) → IsImage synced written b → Torn s.at s.len b c → IsImage synced (written ++ s ∷ []) c
image_torn synced written s b c image torn = record {
  no_shorter = omega (arith, image.no_shorter, torn.no_shorter);
  no_longer = omega (arith, image.no_longer, torn.no_longer, greatest_end-push (length synced) written s);
  outside = λ i within apart.
      let parts = outside_push i written s apart in
      torn.outside i (omega (arith, image.no_shorter)) parts.1 ∙ image.outside i within parts.0;
}

-- An image since one write more is an image from before it after that write was torn: the synced
-- bytes stand in its range.
module _ (synced : List ℕ) (written : List Stretch) (s : Stretch) (c : List ℕ) (image : IsImage synced (written ++ s ∷ []) c) where
  -- the place lies in the range of the last write
  in_range : ℕ → Bool
  in_range i = nat_le s.at i && nat_lt i (s.at + s.len) && nat_lt i (length synced)

  -- the byte of a place before the last write: the synced one in its range, else that of the image
  untorn : ℕ → ℕ
  untorn i = cond (in_range i) (get_or synced i 0) (get_or c i 0)

  -- how long the image from before the last write is
  size : ℕ
  size = min (length c) (greatest_end (length synced) written)

  -- the image from before the last write
  before : List ℕ
  before = map untorn (range_with_len 0 size)

  -- the image from before the last write has that length
  length-before : length before ≡ size
  unfolding before
  length-before = length-map-range_with_len untorn 0 size

  -- the image from before the last write has these bytes
  at_before : (i : ℕ) → i < size → get_or before i 0 ≡ untorn i
  unfolding before
  at_before i within = get_or-map-range_with_len untorn 0 size i i 0 within (omega arith)

  -- outside the range of the last write its bytes are those of the image
  untorn_apart : (i : ℕ) → (i < s.at) ⊎ (s.at + s.len ≤ i) → untorn i ≡ get_or c i 0
  unfolding untorn in_range
  untorn_apart i (inl ahead) = grind (arith, nat_tests)
  untorn_apart i (inr behind) = grind (arith, nat_tests)

  -- outside all writes its bytes are the synced ones
  outside_here : (i : ℕ) → i < length synced → IsOutside i written → (i < s.at) ⊎ (s.at + s.len ≤ i) → untorn i ≡ get_or synced i 0
  outside_here i within apart here = untorn_apart i here ∙ image.outside i within (push_outside i written s apart here)

  -- outside the earlier writes its bytes are the synced ones
  untorn_synced : (i : ℕ) → i < length synced → IsOutside i written → untorn i ≡ get_or synced i 0
  unfolding untorn in_range
  untorn_synced i within apart = elim (cases_lt i s.at) [
    | inl ahead ↦ outside_here i within apart (inl ahead)
    | inr from ↦ elim (cases_lt i (s.at + s.len)) [
      | inl inside ↦ grind (arith, nat_tests)
      | inr behind ↦ outside_here i within apart (inr behind)
    ]
  ]

  -- the length of the image from before the last write is one that a crash may have left, and the
  -- write may have made that of the image
  sizes : (size ≤ length c) × (size ≤ greatest_end (length synced) written) × (length synced ≤ size) × (length c ≤ max size (s.at + s.len))
  unfolding size
  sizes =
      let end = greatest_end-push (length synced) written s in
      let least = greatest_end-least (length synced) written in
      (omega arith, omega arith, omega (arith, image.no_shorter), omega (arith, image.no_longer))

  -- there is an image from before the write that the write tore to this one
  pub image_back : (b : List ℕ) × IsImage synced written b × Torn s.at s.len b c
  image_back = (
    before,
    record {
      no_shorter = omega (arith, length-before, sizes);
      no_longer = omega (arith, length-before, sizes);
      outside = λ i within apart. at_before i (omega (arith, sizes)) ∙ untorn_synced i within apart;
    },
    record {
      no_shorter = omega (arith, length-before, sizes);
      no_longer = omega (arith, length-before, sizes);
      outside = λ i within apart. let inside : i < size = omega (arith, length-before) in sym (at_before i inside ∙ untorn_apart i apart);
    },
  )
