-- Images of a disk in lists, and those that a crash may have left at some moment. For Moments,
-- Torn, and the proofs of src/disk.rt and src/ended.rt.
use Rattle.std.proofs.Common.{◌≡◌, ◌⊎◌, ◌↔◌, inl, inr, ℕ, ◌≤◌, ◌<◌, Bool, true, false, List, [], ◌∷◌, ◌++◌, arith, refl, sym, ap, subst}
use Rattle.std.specs.Prelude.{nat_lt}
use Rattle.std.proofs.lemmas.Bool.Decides.{nat_tests}
use Rattle.std.specs.Prelude.{Result, Ok, Err, IfOk}
use Rattle.disk_images.specs.Images.{Images, images_now, images_since, images_state}
use Rattle.disk_images.specs.Among.{IsAmong, Ended, AreEnded, WasLeft, all_ended, left_since}

-- an image in the first list is in both together
pub among_left : (xs ys : List (List ℕ)) (c : List ℕ) → IsAmong xs c → IsAmong (xs ++ ys) c
among_left [] ys c none = absurd none
among_left (x ∷ xs) ys c (inl is) = inl is
among_left (x ∷ xs) ys c (inr rest) = inr (among_left xs ys c rest)

-- an image in the second list is in both together
pub among_right : (xs ys : List (List ℕ)) (c : List ℕ) → IsAmong ys c → IsAmong (xs ++ ys) c
among_right [] ys c here = here
among_right (x ∷ xs) ys c here = inr (among_right xs ys c here)

-- an image in both together is in one of them
pub among_either : (xs ys : List (List ℕ)) (c : List ℕ) → IsAmong (xs ++ ys) c → IsAmong xs c ⊎ IsAmong ys c
among_either [] ys c here = inr here
among_either (x ∷ xs) ys c (inl is) = inl (inl is)
among_either (x ∷ xs) ys c (inr rest) = elim (among_either xs ys c rest) [ inl first ↦ inl (inr first) | inr second ↦ inr second ]

-- no image that was ended by some moment may have been left at that moment or later
pub left_none : (calls : ℕ) (past : List Ended) (c : List ℕ) → AreEnded calls past → WasLeft calls past c → ⊥
left_none calls [] c are none = none
left_none calls (e ∷ past) c are (inl here) = omega (arith, here.0, are.0)
left_none calls (e ∷ past) c are (inr rest) = left_none calls past c are.1 rest

-- images that were ended by then were ended by any later call
pub ended_later : (calls more : ℕ) (past : List Ended) → calls ≤ more → AreEnded calls past → AreEnded more past
ended_later calls more [] le are = tt
ended_later calls more (e ∷ past) le are = (omega (arith, are.0, le), ended_later calls more past le are.1)

-- images that end with this call, and those before, were ended by it
pub ended_all : (calls : ℕ) (past : List Ended) (images : List (List ℕ)) → AreEnded calls past → AreEnded calls (past ++ all_ended calls images)
ended_all calls [] [] are = tt
ended_all calls [] (image ∷ images) are = (omega arith, ended_all calls [] images tt)
ended_all calls (e ∷ past) images are = (are.0, ended_all calls past images are.1)

-- an image of two lists of ended ones was left in one of them
pub left_either : (since : ℕ) (past more : List Ended) (c : List ℕ) → WasLeft since (past ++ more) c → WasLeft since past c ⊎ WasLeft since more c
left_either since [] more c here = inr here
left_either since (e ∷ past) more c (inl here) = inl (inl here)
left_either since (e ∷ past) more c (inr rest) = elim (left_either since past more c rest) [ inl first ↦ inl (inr first) | inr second ↦ inr second ]

-- an image of the second list is one of both
pub left_right : (since : ℕ) (past more : List Ended) (c : List ℕ) → WasLeft since more c → WasLeft since (past ++ more) c
left_right since [] more c here = here
left_right since (e ∷ past) more c here = inr (left_right since past more c here)

-- images that were ended at one moment were left at each moment before it
pub all_left : (since until : ℕ) (images : List (List ℕ)) (c : List ℕ) → since < until → IsAmong images c → WasLeft since (all_ended until images) c
all_left since until [] c before none = absurd none
all_left since until (image ∷ images) c before (inl is) = inl (before, is)
all_left since until (image ∷ images) c before (inr rest) = inr (all_left since until images c before rest)

-- an image that was left of those ended at one moment is one of them
pub left_among : (since until : ℕ) (images : List (List ℕ)) (c : List ℕ) → WasLeft since (all_ended until images) c → IsAmong images c
left_among since until [] c none = absurd none
left_among since until (image ∷ images) c (inl here) = inl here.1
left_among since until (image ∷ images) c (inr rest) = inr (left_among since until images c rest)

-- the listed images since a moment are those that a crash since then may have left
listed_left : (since : ℕ) (past : List Ended) (c : List ℕ) → IsAmong (left_since since past) c ↔ WasLeft since past c
listed_left since [] c = (λ none. none, λ none. none)
listed_left since (e ∷ past) c = go (nat_lt since e.until) refl (listed_left since past c)
  where
    go : (b : Bool) → nat_lt since e.until ≡ b → IsAmong (left_since since past) c ↔ WasLeft since past c → IsAmong (left_since since (e ∷ past)) c ↔ WasLeft since (e ∷ past) c
    go true is rest = rw is (
      λ here. elim here [ inl same ↦ inl (grind (arith, nat_tests), same) | inr more ↦ inr (rest.0 more) ],
      λ here. elim here [ inl now ↦ inl now.1 | inr more ↦ inr (rest.1 more) ],
    )
    go false is rest = rw is (
      λ here. inr (rest.0 here),
      λ here. elim here [ inl now ↦ absurd (grind (arith, nat_tests)) | inr more ↦ rest.1 more ],
    )

-- the listed images since a moment, with one ended image more
pub left_push : (since : ℕ) (past : List Ended) (e : Ended) → left_since since (past ++ e ∷ []) ≡ left_since since past ++ left_since since (e ∷ [])
left_push since [] e = refl
left_push since (first ∷ past) e = go (nat_lt since first.until) refl (left_push since past e)
  where
    go : (b : Bool) → nat_lt since first.until ≡ b → left_since since (past ++ e ∷ []) ≡ left_since since past ++ left_since since (e ∷ [])
        → left_since since (first ∷ (past ++ e ∷ [])) ≡ left_since since (first ∷ past) ++ left_since since (e ∷ [])
    go true is rest = rw is (ap (λ (l : List (List ℕ)). first.bytes ∷ l) rest)
    go false is rest = rw is rest

-- the list of images has exactly those that a crash since then may leave
listed_images : (d : Images) (since : ℕ) (c : List ℕ) → IsAmong (images_since d since) c ↔ (images_state d).image_since since c
listed_images d since c = go (nat_lt since d.calls) refl
  where
    go : (b : Bool) → nat_lt since d.calls ≡ b → IsAmong (images_since d since) c ↔ (images_state d).image_since since c
    go true is = rw is (
      λ here. elim (among_either (images_now d) (left_since since d.past) c here) [
        | inl now ↦ inl now
        | inr was ↦ inr (grind (arith, nat_tests), (listed_left since d.past c).0 was)
      ],
      λ here. elim here [
        | inl now ↦ among_left (images_now d) (left_since since d.past) c now
        | inr was ↦ among_right (images_now d) (left_since since d.past) c ((listed_left since d.past c).1 was.1)
      ],
    )
    go false is = rw is (
      λ here. elim (among_either (images_now d) [] c here) [ inl now ↦ inl now | inr none ↦ absurd none ],
      λ here. elim here [ inl now ↦ among_left (images_now d) [] c now | inr was ↦ absurd (grind (arith, nat_tests)) ],
    )

-- a list that the code answers has exactly these images
pub just_listed : {E : Type 0} {A : Type 0} (items : A → List (List ℕ)) (d : Images) (since : ℕ) (r : Result A E) → IfOk r (λ l. items l ≡ images_since d since)
    → IfOk r (λ l. (c : List ℕ) → IsAmong (items l) c ↔ (images_state d).image_since since c)
just_listed items d since (Ok l) is = λ c. subst (λ (xs : List (List ℕ)). IsAmong xs c ↔ (images_state d).image_since since c) (sym is) (listed_images d since c)
just_listed items d since (Err e) is = tt
