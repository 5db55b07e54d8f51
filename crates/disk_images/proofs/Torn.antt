-- What a write makes of the images of a disk is what a torn write may leave: a first part of the
-- write over an image from before. For Writing.antt and the loop of `add_torn` (src/growing.rt).
use Rattle.std.proofs.Common.{◌≡◌, inl, inr, ℕ, zero, suc, ◌+◌, ◌≤◌, List, [], ◌∷◌, ◌++◌, length, take, refl, sym, ap, ◌∙◌, arith, subst}
use Rattle.std.specs.List.{flat_map}
use Rattle.std.proofs.lemmas.List.{length-take}
use Rattle.disk_model.specs.Device.{Tears, Torn, written_over}
use Rattle.nc_number.specs.Faults.{next}
use Rattle.disk_model.proofs.Written.{torn_by_write, torn_not}
use Rattle.disk_images.specs.Among.{IsAmong}
use Rattle.disk_images.specs.Images.{Images, IsKept, after_request, images_with_write, images_now, images_state, torn_images, torn_to}
use Rattle.disk_images.proofs.Parts.{among_left, among_right, among_either}
use Rattle.disk_images.proofs.Moments.{elapses, none_gone}

-- a shorter write tears less
torn_shorter : (at m n : ℕ) (b c : List ℕ) → m ≤ n → Torn at m b c → Torn at n b c
torn_shorter at m n b c le torn = record {
  no_shorter = torn.no_shorter;
  no_longer = omega (arith, torn.no_longer, le);
  outside = λ i within apart. torn.outside i within (elim apart [ inl ahead ↦ inl ahead | inr behind ↦ inr (omega (arith, behind, le)) ]);
}

-- an image with a first part of a write over it is one that the write tore
torn_first : (image : List ℕ) (at : ℕ) (bytes : List ℕ) (count : ℕ) → Torn at (length bytes) image (written_over image at (take count bytes))
torn_first image at bytes count =
    torn_shorter at (length (take count bytes)) (length bytes) image _ (omega (arith, length-take count bytes)) (torn_by_write image at (take count bytes))

-- an image with a first part of the write over it is a torn one
torn_some : (image : List ℕ) (at : ℕ) (bytes : List ℕ) (count : ℕ) (c : List ℕ) → IsAmong (torn_to image at bytes count) c → Torn at (length bytes) image c
unfolding torn_to
torn_some image at bytes zero c none = absurd none
torn_some image at bytes (suc count) c here =
    elim (among_either (torn_to image at bytes count) (written_over image at (take (suc count) bytes) ∷ []) c here) [
      | inl first ↦ torn_some image at bytes count c first
      | inr last ↦ elim last [ inl is ↦ subst (Torn at (length bytes) image) (sym is) (torn_first image at bytes (suc count)) | inr none ↦ absurd none ]
    ]

-- each image that a write adds is a torn one of an image from before
torn_each : (images : List (List ℕ)) (at : ℕ) (bytes c : List ℕ) → IsAmong (flat_map (torn_images at bytes) images) c
    → (b : List ℕ) × IsAmong images b × Torn at (length bytes) b c
torn_each [] at bytes c none = absurd none
torn_each (image ∷ images) at bytes c here =
    elim (among_either (torn_images at bytes image) (flat_map (torn_images at bytes) images) c here) [
      | inl first ↦ (image, inl refl, torn_some image at bytes (length bytes) c first)
      | inr rest ↦ let from = torn_each images at bytes c rest in (from.0, inr from.1, from.2)
    ]

-- A write of `bytes` at `at` on the disk `d` that is torn over each image. `content` is what a read
-- gives after it, as much of the write as that may be; `faults` is the count of faults then.
module _ (d : Images) (at : ℕ) (bytes content : List ℕ) (faults : ℕ) (kept : IsKept d) (torn : Torn at (length bytes) d.bytes content) where
  -- how many bytes are written
  abbrev n : ℕ
  n = length bytes

  -- the disk after the write
  abbrev wrote : Images
  wrote = record (images_with_write (after_request d (at + n)) at bytes) { bytes = content; faults = faults }

  -- the images from before stay
  held : (c : List ℕ) → IsAmong (images_now d) c → IsAmong (images_now wrote) c
  held c (inl is) = inr (among_right d.others (d.bytes ∷ flat_map (torn_images at bytes) (images_now d)) c (inl is))
  held c (inr rest) = inr (among_left d.others (d.bytes ∷ flat_map (torn_images at bytes) (images_now d)) c rest)

  -- each image after it is one from before, or that with a part of the write over it
  comes : (c : List ℕ) → IsAmong (images_now wrote) c → (b : List ℕ) × IsAmong (images_now d) b × Torn at n b c
  comes c (inl is) = (d.bytes, inl refl, subst (Torn at n d.bytes) (sym is) torn)
  comes c (inr rest) = elim (among_either d.others (d.bytes ∷ flat_map (torn_images at bytes) (images_now d)) c rest) [
    | inl other ↦ (c, inr other, torn_not at n c)
    | inr added ↦ elim added [
      | inl is ↦ (c, inl is, torn_not at n c)
      | inr made ↦ torn_each (images_now d) at bytes c made
    ]
  ]

  -- the write tears, as the trait says
  pub tears_grown : Tears at n (images_state d) (images_state wrote)
  tears_grown = record {
    time = elapses (Torn at n) d wrote [] kept (torn_not at n) refl (none_gone d.past (next d.calls)) (λ c none. absurd none) (λ c none. absurd none)
        (λ c now. inl (held c now)) comes;
    told = λ old is. let same : d.bytes ≡ old = cc in (content, refl, subst (λ (b : List ℕ). Torn at n b content) same torn);
    untold = λ none. absurd (cc);
    counted = λ old is. refl;
    reach = λ old is. refl;
    allows = λ calls end allows. allows;
  }

-- with no byte written there is no image with a first part
pub torn_none : (image : List ℕ) (at : ℕ) (bytes : List ℕ) → torn_to image at bytes 0 ≡ []
unfolding torn_to
torn_none image at bytes = refl

-- with one byte more written there is one image more, with that first part over it
pub torn_more : (image : List ℕ) (at : ℕ) (bytes : List ℕ) (count : ℕ)
    → torn_to image at bytes (count + 1) ≡ torn_to image at bytes count ++ written_over image at (take (count + 1) bytes) ∷ []
unfolding torn_to
torn_more image at bytes count =
    let more : count + 1 ≡ suc count = omega arith in
    ap (torn_to image at bytes) more ∙ ap (λ (k : ℕ). torn_to image at bytes count ++ written_over image at (take k bytes) ∷ []) (sym more)
