-- Texts that are made of pieces, one after another: for `push_waits` and `push_meetings`
-- (src/printing.rt).
use Rattle.std.proofs.Common.{◌≡◌, ℕ, zero, suc, ◌≤◌, min, List, [], ◌∷◌, ◌++◌, length, drop, Result, Ok, Err, OnOk, refl, ap, ◌∙◌, arith, append_assoc}
use Rattle.label_list.specs.declared.labelled.Labelled.{Labelled}
use Rattle.wait_verify.specs.Printed.{meetings_text}

-- Two pieces that are added one after another are added as one.
two : (old a b x y : List ℕ) → x ≡ old ++ a → y ≡ x ++ b → y ≡ old ++ (a ++ b)
two old a b x y first second = second ∙ ap (λ (l : List ℕ). l ++ b) first ∙ append_assoc old a b

-- Four pieces that are added one after another, of which adding the last may fail, are added as one.
pub four : {T E : Type 0} (result : Result T E) (old a b c d x y z w : List ℕ) → x ≡ old ++ a → y ≡ x ++ b → z ≡ y ++ c
    → OnOk result (w ≡ z ++ d) → OnOk result (w ≡ old ++ (((a ++ b) ++ c) ++ d))
four (Ok done) old a b c d x y z w first second third last =
    two old ((a ++ b) ++ c) d z w (two old (a ++ b) c y z (two old a b x y first second) third) last
four (Err fault) old a b c d x y z w first second third last = tt

-- Behind the last label of the shorter list no line follows.
pub no_more : (left right : List Labelled) (n : ℕ) → min (length left) (length right) ≤ n
    → meetings_text (drop n left) (drop n right) ≡ []
no_more [] right zero over = refl
no_more [] right (suc n) over = refl
no_more (one ∷ left) [] zero over = refl
no_more (one ∷ left) [] (suc n) over = none (drop n left)
  where
    none : (xs : List Labelled) → meetings_text xs [] ≡ []
    none [] = refl
    none (x ∷ xs) = refl
no_more (one ∷ left) (two ∷ right) zero over = absurd (omega (arith, over))
no_more (one ∷ left) (two ∷ right) (suc n) over = no_more left right n (omega (arith, over))
