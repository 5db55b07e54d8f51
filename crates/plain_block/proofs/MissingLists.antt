-- Lists of numbers that may be missing, with a number put before them. This crate takes none.
use Rattle.std.proofs.Common.{◌≡◌, ℕ, List, [], ◌∷◌, ◌++◌, Option, Some, None, option_map, refl, ap, sym, append_assoc}

-- a number before those that are left, after those so far
pub put_behind : (done : List ℕ) (d : ℕ) (left : Option (List ℕ)) → option_map (λ ds. done ++ ds) (option_map (λ ds. d ∷ ds) left) ≡ option_map (λ ds. (done ++ d ∷ []) ++ ds) left
put_behind done d None = refl
put_behind done d (Some ds) = ap Some (sym (append_assoc done (d ∷ []) ds))

-- what a number put before a list that may be missing says of that list
pub behind : (left : Option (List ℕ)) (d : ℕ) (ds : List ℕ) → option_map (λ rest. d ∷ rest) left ≡ Some ds → (rest : List ℕ) × (left ≡ Some rest) × (d ∷ rest ≡ ds)
behind None d ds e = absurd (let wrong : None ≡ Some ds = e in cc)
behind (Some rest) d ds e = (rest, refl, (let same : Some (d ∷ rest) ≡ Some ds = e in cc))

-- if it is missing with the number, it is missing
pub missing : (left : Option (List ℕ)) (d : ℕ) → option_map (λ rest. d ∷ rest) left ≡ None → left ≡ None
missing None d none = refl
missing (Some rest) d wrong = absurd (let wrong_is : Some (d ∷ rest) ≡ None = wrong in cc)
