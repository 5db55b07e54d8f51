-- Two lists of flags that test as equal are equal. For the contract of `are_same` (src/loud.rt).
use Rattle.std.proofs.Common.{◌≡◌, Bool, true, false, List, [], ◌∷◌, refl, ap}
use lib.Pointwise.{pointwise}
use mathlib.Core.Bool.{beq}
use Rattle.block_order.proofs.loud.are_same.Goals as goal

-- Two lists that test as equal entry by entry are equal.
equal : (xs ys : List Bool) → pointwise beq xs ys ≡ true → xs ≡ ys
equal [] [] e = refl
equal [] (y ∷ ys) e = absurd cc
equal (x ∷ xs) [] e = absurd cc
equal (true ∷ xs) (true ∷ ys) e = ap (λ zs. true ∷ zs) (equal xs ys e)
equal (true ∷ xs) (false ∷ ys) e = absurd cc
equal (false ∷ xs) (true ∷ ys) e = absurd cc
equal (false ∷ xs) (false ∷ ys) e = ap (λ zs. false ∷ zs) (equal xs ys e)

pub returns : goal.returns
returns c same = equal c.args.these.now c.args.those.now (cc (c.eq.ensures, same))
