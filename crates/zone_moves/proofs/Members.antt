-- Elements of lists, as Kept and Near go through them.
use Rattle.std.proofs.Common.{◌≡◌, ◌<◌, ℕ, zero, suc, List, [], ◌∷◌, length, ◌⊎◌, inl, inr, sym, subst, slice_index_or, arith}
use Rattle.std.specs.List.{All, Contains}
use Rattle.std.proofs.lemmas.List.Elements.{All-head, All-tail}

-- x is one of these
abbrev pub IsIn : {X : Type 0} → X → List X → Type 0
IsIn x [] = ⊥
IsIn x (y ∷ xs) = (x ≡ y) ⊎ IsIn x xs

-- what is one of these is contained in the list
pub contained : {X : Type 0} (x : X) (xs : List X) → IsIn x xs → Contains xs x
contained x [] is = elim is [ ]
contained x (y ∷ xs) is = go is (λ later. contained x xs later)
  where
    go : (x ≡ y) ⊎ IsIn x xs → (IsIn x xs → Contains xs x) → Contains (y ∷ xs) x
    go (inl here) rest = (0, omega arith, sym here)
    go (inr later) rest = let found = rest later in (suc (found.0), omega (arith, found.1), found.2)

-- what is contained in a list is one of it
pub is_in : {X : Type 0} (xs : List X) (x : X) → Contains xs x → IsIn x xs
is_in {X = X} xs x (k, within, is) = at xs k within is
  where
    at : (ys : List X) (n : ℕ) → n < length ys → slice_index_or ys n x ≡ x → IsIn x ys
    at [] n inside here = absurd (omega (arith, inside))
    at (y ∷ ys) zero inside here = inl (sym here)
    at (y ∷ ys) (suc n) inside here = inr (at ys n (omega (arith, inside)) here)

-- what holds of all of a list holds of each of it
pub each : {X : Type 0} (P : X → Type 0) (xs : List X) (x : X) → All P xs → IsIn x xs → P x
each P [] x all is = elim is [ ]
each P (y ∷ xs) x all is = go is (λ later. each P xs x (All-tail P y xs all) later)
  where
    go : (x ≡ y) ⊎ IsIn x xs → (IsIn x xs → P x) → P x
    go (inl here) rest = subst P (sym here) (All-head P y xs all)
    go (inr later) rest = rest later
