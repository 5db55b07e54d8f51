-- What a call adds to what a crash may leave: the images after it come of those before it. For
-- Torn.antt, Writing.antt and the proofs of `len`, `read_at` and `sync` (src/disk.rt).
use Rattle.std.proofs.Common.{◌≡◌, ◌⊎◌, inl, inr, ℕ, ◌+◌, ◌≤◌, ◌<◌, max, List, [], ◌++◌, refl, sym, arith, subst, append-nil}
use Rattle.std.proofs.lemmas.Bool.{cases_lt}
use Rattle.disk_model.specs.Device.{Elapses, Looks, Tears, Torn, Stays}
use Rattle.nc_number.specs.Faults.{next}
use Rattle.disk_images.specs.Among.{IsAmong, Ended, WasLeft, all_ended}
use Rattle.disk_images.specs.Images.{Images, IsKept, images_now, images_state, after_settling}
use Rattle.disk_images.proofs.Parts.{left_none, left_either, left_right, all_left, left_among}

-- A call: the time moves, it ends the images `gone`, and each image after it comes by `step` of one
-- before it.
module _ (step : List ℕ → List ℕ → Type 0) (old new : Images) (gone : List (List ℕ)) (kept : IsKept old) (stays : (c : List ℕ) → step c c)
    (counted : new.calls ≡ next old.calls) (past : new.past ≡ old.past ++ all_ended new.calls gone)
    (ended : (c : List ℕ) → IsAmong gone c → IsAmong (images_now old) c)
    (later : (c : List ℕ) → IsAmong gone c → old.calls < new.calls)
    (held : (c : List ℕ) → IsAmong (images_now old) c → IsAmong (images_now new) c ⊎ ((old.calls < new.calls) × IsAmong gone c))
    (comes : (c : List ℕ) → IsAmong (images_now new) c → (b : List ℕ) × IsAmong (images_now old) b × step b c) where
  -- an image that was left by then was left before, or is one that this call ended
  left_in : (t : ℕ) (c : List ℕ) → WasLeft t new.past c → WasLeft t old.past c ⊎ IsAmong gone c
  left_in t c was = elim (left_either t old.past (all_ended new.calls gone) c (subst (λ (p : List Ended). WasLeft t p c) past was)) [
    | inl before ↦ inl before
    | inr here ↦ inr (left_among t new.calls gone c here)
  ]

  -- an image that this call ended was left at each moment before it
  left_of : (t : ℕ) (c : List ℕ) → t < new.calls → IsAmong gone c → WasLeft t new.past c
  left_of t c earlier here =
      subst (λ (p : List Ended). WasLeft t p c) (sym past) (left_right t old.past (all_ended new.calls gone) c (all_left t new.calls gone c earlier here))

  -- an image from before the call may be left since its time
  covered : (c : List ℕ) → IsAmong (images_now old) c → (images_state new).image_since old.calls c
  covered c here = elim (held c here) [ inl now ↦ inl now | inr out ↦ inr (out.0, left_of old.calls c out.0 out.1) ]

  -- an image that may be left since its time comes of one from before the call
  inside : (c : List ℕ) → (images_state new).image_since old.calls c → (b : List ℕ) × IsAmong (images_now old) b × step b c
  inside c (inl now) = comes c now
  inside c (inr was) = elim (left_in old.calls c was.1) [
    | inl before ↦ absurd (left_none old.calls old.past c kept.ended before)
    | inr here ↦ (c, ended c here, stays c)
  ]

  -- an image that may be left since an earlier time was so before the call, or is since the call
  before : (t : ℕ) (c : List ℕ) → t ≤ old.calls → (images_state new).image_since t c
      → (images_state old).image_since t c ⊎ (images_state new).image_since old.calls c
  before t c le (inl now) = inr (inl now)
  before t c le (inr was) = elim (left_in t c was.1) [
    | inl earlier ↦ inl (inr (sooner earlier, earlier))
    | inr here ↦ inr (inr (later c here, left_of old.calls c (later c here) here))
  ]
    where
      sooner : WasLeft t old.past c → t < old.calls
      sooner earlier = go (cases_lt t old.calls)
        where
          go : (t < old.calls) ⊎ (old.calls ≤ t) → t < old.calls
          go (inl less) = less
          go (inr more) = let same : t ≡ old.calls = omega (arith, le, more) in
              absurd (left_none old.calls old.past c kept.ended (subst (λ (s : ℕ). WasLeft s old.past c) same earlier))

  -- the record of the trait: time moves, and images come of images
  pub elapses : Elapses step (images_state old) (images_state new)
  elapses = record {
    later = let fits = kept.calls_fit in omega (arith, counted, fits);
    moves = omega (arith, counted);
    covered = covered;
    inside = inside;
    before = before;
  }

-- with no image ended, the list of ended ones stays
pub none_gone : (past : List Ended) (calls : ℕ) → past ≡ past ++ all_ended calls []
none_gone past calls = sym (append-nil past)

-- a call that writes nothing adds no image, whatever the count of faults is then
pub looks_counted : (d : Images) (faults : ℕ) → IsKept d → Looks (images_state d) (images_state (record d { calls = next d.calls; faults = faults }))
looks_counted d faults kept = record {
  time = elapses Stays d (record d { calls = next d.calls; faults = faults }) [] kept (λ c. refl) refl (none_gone d.past (next d.calls))
      (λ c none. absurd none) (λ c none. absurd none) (λ c now. inl now) (λ c now. (c, now, refl));
  same = refl;
  counted = λ bytes reads. refl;
  reach = λ bytes reads. refl;
  allows = λ calls end allows. allows;
}

-- a sync that succeeds adds no image: it ends all but what a read gives
pub settled_looks : (d : Images) (faults : ℕ) → IsKept d → d.calls < next d.calls
    → Looks (images_state d) (images_state (after_settling (record d { calls = next d.calls; faults = faults })))
settled_looks d faults kept short = record {
  time = elapses Stays d (after_settling (record d { calls = next d.calls; faults = faults })) (images_now d) kept (λ c. refl) refl refl
      (λ c here. here) (λ c here. short) (λ c now. inr (short, now)) (λ c now. elim now [ inl is ↦ (c, inl is, refl) | inr none ↦ absurd none ]);
  same = refl;
  counted = λ bytes reads. refl;
  reach = λ bytes reads. refl;
  allows = λ calls end allows. allows;
}

-- a write that was refused adds no image
pub tears_not : (d : Images) (at n faults : ℕ) → IsKept d → ((c : List ℕ) → Torn at n c c)
    → Tears at n (images_state d) (images_state (record d { calls = next d.calls; reach = max d.reach (at + n); faults = faults }))
tears_not d at n faults kept stays = record {
  time = elapses (Torn at n) d (record d { calls = next d.calls; reach = max d.reach (at + n); faults = faults }) [] kept stays refl
      (none_gone d.past (next d.calls)) (λ c none. absurd none) (λ c none. absurd none) (λ c now. inl now) (λ c now. (c, now, stays c));
  told = λ old is. let same : d.bytes ≡ old = cc in (d.bytes, refl, subst (λ (b : List ℕ). Torn at n b d.bytes) same (stays d.bytes));
  untold = λ none. absurd (cc);
  counted = λ old is. refl;
  reach = λ old is. refl;
  allows = λ calls end allows. allows;
}
