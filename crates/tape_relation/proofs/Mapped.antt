-- What a map of the elements of a list leaves alone, if a test is the same of the element and of
-- what it is mapped to. For UpperCase and Placeless.
use Rattle.std.proofs.Common.{◌≡◌, ◌+◌, Bool, true, false, cond, ◌||◌, List, [], ◌∷◌, map, refl, ◌∙◌}
use Rattle.std.specs.Prelude.{filter}
use Rattle.std.specs.List.{list_any, prefix_len}

-- a choice of two mapped lists is the mapped choice
pub either_map : {X Y : Type 0} (h : X → Y) (test : Bool) (a b : List X) → cond test (map h a) (map h b) ≡ map h (cond test a b)
either_map h true a b = refl
either_map h false a b = refl

-- the length of a front that passes a test, if the test is the same of what is mapped
pub prefix_same : {X : Type 0} (h : X → X) (p : X → Bool) → ((x : X) → p (h x) ≡ p x) → (xs : List X) → prefix_len p (map h xs) ≡ prefix_len p xs
prefix_same h p same [] = refl
prefix_same h p same (x ∷ xs) = λ i. cond (same x i) (1 + prefix_same h p same xs i) 0

-- whether some element passes a test, if the test is the same of what is mapped
pub any_same : {X : Type 0} (h : X → X) (p : X → Bool) → ((x : X) → p (h x) ≡ p x) → (xs : List X) → list_any p (map h xs) ≡ list_any p xs
any_same h p same [] = refl
any_same h p same (x ∷ xs) = λ i. same x i || any_same h p same xs i

-- the elements that pass a test, if the test is the same of what is mapped
pub filter_same : {X : Type 0} (h : X → X) (p : X → Bool) → ((x : X) → p (h x) ≡ p x) → (xs : List X) → filter p (map h xs) ≡ map h (filter p xs)
filter_same h p same [] = refl
filter_same h p same (x ∷ xs) = (λ i. cond (same x i) (h x ∷ filter_same h p same xs i) (filter_same h p same xs i)) ∙ either_map h (p x) (x ∷ filter p xs) (filter p xs)
