-- Parts repeat with the waits of the list: the law `parts_repeat_with_the_waits` (src/laws.rt). The
-- items of a path's list are stretches of blocks, waits and the new beginning; a round is one way
-- through the list.
use Rattle.std.proofs.Common.{◌≡◌, ℕ, suc, ◌+◌, ◌<◌, ◌⊎◌, inl, inr, List, ◌∷◌, refl, subst, arith}
use Rattle.block_order.specs.declared.program.ControlProgram.{ControlProgram}
use Rattle.part_order.specs.Parts.{Item, Stretch, Meets, Anew, waits_in, Follows, first, behind_stretch, behind_wait, anew, path_items, path_waits, stretch_at, IsInPart, listed, called, PartsRepeat}

-- If items follow n waits, then n and the waits of these items are the waits of the list; or a
-- round has passed, and they followed so many waits fewer too.
pub folds : (all : List Item) (n : ℕ) (xs : List Item) → Follows all n xs
    → (n + waits_in xs ≡ waits_in all) ⊎ ((m : ℕ) × (n ≡ m + waits_in all) × Follows all m xs)
folds all _ _ first = inl (omega arith)
folds all n _ (behind_stretch _ program number rest before) = go (folds all n (Stretch program number ∷ rest) before)
  where
    go : (n + waits_in (Stretch program number ∷ rest) ≡ waits_in all) ⊎ ((m : ℕ) × (n ≡ m + waits_in all) × Follows all m (Stretch program number ∷ rest))
        → (n + waits_in rest ≡ waits_in all) ⊎ ((m : ℕ) × (n ≡ m + waits_in all) × Follows all m rest)
    go (inl e) = inl e
    go (inr (m, e, f)) = inr (m, e, behind_stretch m program number rest f)
folds all _ _ (behind_wait n rest before) = go (folds all n (Meets ∷ rest) before)
  where
    go : (n + waits_in (Meets ∷ rest) ≡ waits_in all) ⊎ ((m : ℕ) × (n ≡ m + waits_in all) × Follows all m (Meets ∷ rest))
        → (suc n + waits_in rest ≡ waits_in all) ⊎ ((m : ℕ) × (suc n ≡ m + waits_in all) × Follows all m rest)
    go (inl e) = inl (omega arith)
    go (inr (m, e, f)) = inr (suc m, omega arith, behind_wait m rest f)
folds all n _ (anew _ rest before) = go (folds all n (Anew ∷ rest) before)
  where
    go : (n + waits_in (Anew ∷ rest) ≡ waits_in all) ⊎ ((m : ℕ) × (n ≡ m + waits_in all) × Follows all m (Anew ∷ rest))
        → (n + waits_in all ≡ waits_in all) ⊎ ((m : ℕ) × (n ≡ m + waits_in all) × Follows all m all)
    go (inl e) = inr (0, omega arith, first)
    go (inr (m, e, f)) = inr (m, e, anew m rest f)

-- If items follow n waits, more than the list has, they follow a round fewer too.
follows_before : (all : List Item) (n m : ℕ) (xs : List Item) → Follows all n xs → waits_in all < n → n ≡ m + waits_in all → Follows all m xs
follows_before all n m xs f more e = go (folds all n xs f)
  where
    go : (n + waits_in xs ≡ waits_in all) ⊎ ((k : ℕ) × (n ≡ k + waits_in all) × Follows all k xs) → Follows all m xs
    go (inl same) = absurd (omega arith)
    go (inr (k, is, g)) = let same : k ≡ m = omega arith in subst (λ i. Follows all i xs) same g

-- A block in a part after more waits than the list has is in the part of a round before too.
part_before : (tape : List ControlProgram) (n m program block : ℕ) → waits_in (path_items tape) < n → n ≡ m + waits_in (path_items tape)
    → IsInPart tape n program block → IsInPart tape m program block
part_before tape n m _ _ more e (listed program block rest f) =
    listed program block rest (follows_before (path_items tape) n m (Stretch program (stretch_at tape program block) ∷ rest) f more e)
part_before tape n m _ _ more e (called caller there program block repeats inside is quiet) =
    called caller there program block repeats (part_before tape n m caller there more e inside) is quiet

-- If the list has no wait, no wait is ever passed, and what follows has none.
without_wait : (all : List Item) (n : ℕ) (xs : List Item) → waits_in all ≡ 0 → Follows all n xs → (n ≡ 0) × (waits_in xs ≡ 0)
without_wait all _ _ none first = (refl, none)
without_wait all n _ none (behind_stretch _ program number rest before) = without_wait all n (Stretch program number ∷ rest) none before
without_wait all _ _ none (behind_wait n rest before) = let e = (without_wait all n (Meets ∷ rest) none before).1 in absurd cc
without_wait all n _ none (anew _ rest before) = ((without_wait all n (Anew ∷ rest) none before).0, none)

-- If the list has no wait, a block is in no part but part 0.
part_alone : (tape : List ControlProgram) (n program block : ℕ) → path_waits tape ≡ 0 → IsInPart tape n program block → n ≡ 0
part_alone tape n _ _ none (listed program block rest f) =
    (without_wait (path_items tape) n (Stretch program (stretch_at tape program block) ∷ rest) none f).0
part_alone tape n _ _ none (called caller there program block repeats inside is quiet) = part_alone tape n caller there none inside

-- The law: parts repeat with the waits of the list.
pub parts_repeat : (tape : List ControlProgram) → PartsRepeat tape
parts_repeat tape = record {
  before = λ n program block some inside. part_before tape (n + path_waits tape) n program block (omega arith) refl inside;
  alone = part_alone tape;
}
