-- What a search finds in a list, such as a row in a table of codes, passes its test. This crate
-- does not.
use Rattle.std.proofs.Common.{◌≡◌, Bool, true, false, List, [], ◌∷◌, Some, refl}
use Rattle.std.specs.List.{find}

-- the item that a search finds passes its test
pub found_passes : {X : Type 0} (p : X → Bool) (xs : List X) (x : X) → find p xs ≡ Some x → p x ≡ true
found_passes p [] x found = absurd (cc)
found_passes {X} p (y ∷ ys) x found = go (p y) refl (found_passes p ys x)
  where
    go : (b : Bool) → p y ≡ b → (find p ys ≡ Some x → p x ≡ true) → p x ≡ true
    go true e rest = let here : Some y ≡ Some x = rw e at found in let same : y ≡ x = cc in rw (← same) e
    go false e rest = rest (rw e at found)
