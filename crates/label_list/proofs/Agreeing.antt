-- Two lists of labels that agree as far as the shorter goes are equal, since each ends by its last
-- label alone. For the proof of `first_difference` (src/comparison.rt).
use Rattle.std.proofs.Common.{◌≡◌, ℕ, ◌≤◌, min, List, [], ◌∷◌, take, length, zero, suc, ap, arith}
use Rattle.block_order.specs.declared.label.Label.{Label}
use Rattle.block_order.specs.declared.label.Label.TheVariants.{Wait, End, Again, Off}
use Rattle.label_list.specs.declared.labelled.Labelled.{Labelled}
use Rattle.label_list.specs.Lists.{IsEnded, ended_by, bare_labels}

-- If nothing is behind a label on either side, both lists are that label.
none_left : (a : Label) (xs ys : List Labelled) → xs ≡ [] → ys ≡ [] → a ∷ bare_labels xs ≡ a ∷ bare_labels ys
none_left a xs ys p q = let e1 : bare_labels xs ≡ [] = ap bare_labels p in let e2 : bare_labels ys ≡ [] = ap bare_labels q in cc

-- Lists that agree as far as the shorter one goes agree to their ends.
pub same_to_end : (xs ys : List Labelled) (n : ℕ) → min (length xs) (length ys) ≤ n → IsEnded xs → IsEnded ys
    → bare_labels (take n xs) ≡ bare_labels (take n ys) → bare_labels xs ≡ bare_labels ys
same_to_end [] ys n short l r e = absurd l
same_to_end (x ∷ xs) [] n short l r e = absurd r
same_to_end (x ∷ xs) (y ∷ ys) zero short l r e = absurd (omega arith)
same_to_end (x ∷ xs) (y ∷ ys) (suc n) short l r e = by_labels x.label y.label l r heads
    (λ a b. same_to_end xs ys n (omega arith) a b tails)
  where
    heads : x.label ≡ y.label
    heads = cc

    tails : bare_labels (take n xs) ≡ bare_labels (take n ys)
    tails = cc

    by_labels : (a b : Label) → ended_by a xs (IsEnded xs) → ended_by b ys (IsEnded ys) → a ≡ b
        → (IsEnded xs → IsEnded ys → bare_labels xs ≡ bare_labels ys) → a ∷ bare_labels xs ≡ b ∷ bare_labels ys
    by_labels End End p q same rest = none_left End xs ys p q
    by_labels Again Again p q same rest = none_left Again xs ys p q
    by_labels Off Off p q same rest = none_left Off xs ys p q
    by_labels (Wait c) (Wait d) p q same rest = let e1 = rest p q in cc
    by_labels a b p q same rest = cc
