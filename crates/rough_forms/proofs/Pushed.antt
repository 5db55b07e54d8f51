-- Lists that were pushed to, one by one.
use Rattle.std.proofs.Common.{◌≡◌, List, [], ◌∷◌, ◌++◌, ap, ◌∙◌, append_assoc}

-- a list that four things were put after in turn
pub four_pushed : {A : Type 0} (old b c d e : List A) (w x y z : A) → b ≡ old ++ w ∷ [] → c ≡ b ++ x ∷ [] → d ≡ c ++ y ∷ [] → e ≡ d ++ z ∷ [] → e ≡ old ++ w ∷ x ∷ y ∷ z ∷ []
four_pushed old b c d e w x y z is_b is_c is_d is_e =
    is_e ∙ ap (λ l. l ++ z ∷ []) is_d ∙ append_assoc c (y ∷ []) (z ∷ [])
    ∙ ap (λ l. l ++ y ∷ z ∷ []) is_c ∙ append_assoc b (x ∷ []) (y ∷ z ∷ [])
    ∙ ap (λ l. l ++ x ∷ y ∷ z ∷ []) is_b ∙ append_assoc old (w ∷ []) (x ∷ y ∷ z ∷ [])

-- a list that two things, a list and two things were put after in turn
pub lines_pushed : {A : Type 0} (old b c d e f : List A) (w x y z : A) (lines : List A) → b ≡ old ++ w ∷ [] → c ≡ b ++ x ∷ [] → d ≡ c ++ lines → e ≡ d ++ y ∷ [] → f ≡ e ++ z ∷ [] → f ≡ old ++ w ∷ x ∷ (lines ++ y ∷ z ∷ [])
lines_pushed old b c d e f w x y z lines is_b is_c is_d is_e is_f =
    is_f ∙ ap (λ l. l ++ z ∷ []) is_e ∙ append_assoc d (y ∷ []) (z ∷ [])
    ∙ ap (λ l. l ++ y ∷ z ∷ []) is_d ∙ append_assoc c lines (y ∷ z ∷ [])
    ∙ ap (λ l. l ++ (lines ++ y ∷ z ∷ [])) is_c ∙ append_assoc b (x ∷ []) (lines ++ y ∷ z ∷ [])
    ∙ ap (λ l. l ++ x ∷ (lines ++ y ∷ z ∷ [])) is_b ∙ append_assoc old (w ∷ []) (x ∷ (lines ++ y ∷ z ∷ []))
