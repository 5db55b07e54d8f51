-- Which stretch stands behind n waits of a list of items, and that what follows there is found so;
-- behind the last wait also what begins anew. An item is a stretch (a run of blocks up to a wait,
-- an end, an M99 without a number or a call that leads to a wait or an end), a wait or the new
-- beginning. For InParts, ItemLines and PartsLeast.
use Rattle.std.proofs.Common.{◌≡◌, ℕ, zero, suc, ◌+◌, ◌≤◌, ◌⊎◌, inl, inr, Bool, true, false, List, [], ◌∷◌, refl, sym, subst, arith}
use Rattle.part_order.specs.Parts.{Item, Stretch, Meets, Anew, Follows, first, behind_stretch, behind_wait, anew, waits_in}
use Rattle.part_order.proofs.Folded.{folds}

-- Behind k waits of the items, before they begin anew, this stretch stands.
abbrev pub Seg : List Item → ℕ → ℕ → ℕ → Type 0
Seg [] k p s = ⊥
Seg (Stretch q t ∷ xs) k p s = ((k ≡ 0) × (q ≡ p) × (t ≡ s)) ⊎ Seg xs k p s
Seg (Meets ∷ xs) zero p s = ⊥
Seg (Meets ∷ xs) (suc k) p s = Seg xs k p s
Seg (Anew ∷ xs) k p s = ⊥

-- The items end with the path's beginning anew.
abbrev pub ends_anew : List Item → Bool
ends_anew [] = false
ends_anew (Stretch q t ∷ xs) = ends_anew xs
ends_anew (Meets ∷ xs) = ends_anew xs
ends_anew (Anew ∷ xs) = true

-- Items that follow in a list end as the list does.
follows_anew : (all : List Item) (n : ℕ) (xs : List Item) → Follows all n xs → ends_anew xs ≡ ends_anew all
follows_anew all _ _ first = refl
follows_anew all n _ (behind_stretch _ q t rest f) = follows_anew all n (Stretch q t ∷ rest) f
follows_anew all _ _ (behind_wait n rest f) = follows_anew all n (Meets ∷ rest) f
follows_anew all n _ (anew _ rest f) = refl

-- Each stretch of the items stands in the list, n waits further; or a round has passed, and it
-- stands in the list at the same number of waits.
abbrev pub IsWithin : List Item → ℕ → List Item → Type 0
IsWithin all n xs =
    ((k p s : ℕ) → Seg xs k p s → Seg all (n + k) p s)
    ⊎ ((n ≡ waits_in all) × (ends_anew all ≡ true) × ((k p s : ℕ) → Seg xs k p s → Seg all k p s))

-- Items that follow no more waits than the list has are within the list.
within : (all : List Item) (n : ℕ) (xs : List Item) → Follows all n xs → n ≤ waits_in all → IsWithin all n xs
within all _ _ first few = inl (λ k p s seg. let e : 0 + k ≡ k = omega arith in subst (λ i. Seg all i p s) (sym e) seg)
within all n _ (behind_stretch _ q t rest f) few = go (within all n (Stretch q t ∷ rest) f few)
  where
    go : IsWithin all n (Stretch q t ∷ rest) → IsWithin all n rest
    go (inl all_there) = inl (λ k p s seg. all_there k p s (inr seg))
    go (inr (e, is, all_there)) = inr (e, is, λ k p s seg. all_there k p s (inr seg))
within all _ _ (behind_wait n rest f) few = go (within all n (Meets ∷ rest) f (omega arith))
  where
    go : IsWithin all n (Meets ∷ rest) → IsWithin all (suc n) rest
    go (inl all_there) = inl (λ k p s seg.
        let e : n + suc k ≡ suc n + k = omega arith in subst (λ i. Seg all i p s) e (all_there (suc k) p s seg))
    go (inr (e, is, all_there)) = absurd (omega arith)
within all n _ (anew _ rest f) few = go (folds all n (Anew ∷ rest) f)
  where
    go : (n + waits_in (Anew ∷ rest) ≡ waits_in all) ⊎ ((m : ℕ) × (n ≡ m + waits_in all) × Follows all m (Anew ∷ rest)) → IsWithin all n all
    go (inl e) = inr (omega arith, sym (follows_anew all n (Anew ∷ rest) f), λ k p s seg. seg)
    go (inr (m, e, g)) = inr (omega arith, sym (follows_anew all n (Anew ∷ rest) f), λ k p s seg. seg)

-- If a stretch follows n waits of a list, it stands behind n waits; or, behind the last wait of a
-- list that begins anew, it stands behind none.
pub stands : (all : List Item) (n p s : ℕ) (rest : List Item) → n ≤ waits_in all → Follows all n (Stretch p s ∷ rest)
    → Seg all n p s ⊎ ((n ≡ waits_in all) × (ends_anew all ≡ true) × Seg all 0 p s)
stands all n p s rest few f = go (within all n (Stretch p s ∷ rest) f few)
  where
    go : IsWithin all n (Stretch p s ∷ rest) → Seg all n p s ⊎ ((n ≡ waits_in all) × (ends_anew all ≡ true) × Seg all 0 p s)
    go (inl there) =
        let e : n + 0 ≡ n = omega arith in inl (subst (λ i. Seg all i p s) e (there 0 p s (inl (refl, refl, refl))))
    go (inr (e, is, there)) = inr (e, is, there 0 p s (inl (refl, refl, refl)))

-- The stretch follows n waits of the list.
abbrev pub IsListed : List Item → ℕ → ℕ → ℕ → Type 0
IsListed all n p s = (rest : List Item) × Follows all n (Stretch p s ∷ rest)

-- If items follow m waits and a stretch stands behind k waits of them, it follows m + k waits.
seg_follows : (all xs : List Item) (m k p s : ℕ) → Follows all m xs → Seg xs k p s → IsListed all (m + k) p s
seg_follows all [] m k p s f seg = absurd seg
seg_follows all (Stretch q t ∷ xs) m k p s f (inl (none, own, same)) =
    let e : m ≡ m + k = omega arith in (
      xs,
      subst (λ i. Follows all i (Stretch p s ∷ xs)) e
          (subst (λ a. Follows all m (Stretch a s ∷ xs)) own (subst (λ b. Follows all m (Stretch q b ∷ xs)) same f)),
    )
seg_follows all (Stretch q t ∷ xs) m k p s f (inr seg) = seg_follows all xs m k p s (behind_stretch m q t xs f) seg
seg_follows all (Meets ∷ xs) m zero p s f seg = absurd seg
seg_follows all (Meets ∷ xs) m (suc k) p s f seg =
    let e : suc m + k ≡ m + suc k = omega arith in
    subst (λ i. IsListed all i p s) e (seg_follows all xs (suc m) k p s (behind_wait m xs f) seg)
seg_follows all (Anew ∷ xs) m k p s f seg = absurd seg

-- If items that follow m waits begin anew, the whole list follows once more behind their last wait.
anew_follows : (all xs : List Item) (m : ℕ) → Follows all m xs → ends_anew xs ≡ true → Follows all (m + waits_in xs) all
anew_follows all [] m f is = absurd cc
anew_follows all (Stretch q t ∷ xs) m f is = anew_follows all xs m (behind_stretch m q t xs f) is
anew_follows all (Meets ∷ xs) m f is =
    let e : suc m + waits_in xs ≡ m + suc (waits_in xs) = omega arith in
    subst (λ i. Follows all i all) e (anew_follows all xs (suc m) (behind_wait m xs f) is)
anew_follows all (Anew ∷ xs) m f is = let e : m ≡ m + 0 = omega arith in subst (λ i. Follows all i all) e (anew m xs f)

-- A stretch that stands behind n waits of the list follows n waits.
pub seg_listed : (all : List Item) (n p s : ℕ) → Seg all n p s → IsListed all n p s
seg_listed all n p s seg =
    let e : 0 + n ≡ n = omega arith in subst (λ i. IsListed all i p s) e (seg_follows all all 0 n p s first seg)

-- If the list begins anew, a stretch before its first wait follows all its waits too.
pub anew_listed : (all : List Item) (p s : ℕ) → ends_anew all ≡ true → Seg all 0 p s → IsListed all (waits_in all) p s
anew_listed all p s is seg =
    let f = anew_follows all all 0 first is in
    let e : (0 + waits_in all) + 0 ≡ waits_in all = omega arith in
    subst (λ i. IsListed all i p s) e (seg_follows all all (0 + waits_in all) 0 p s f seg)
