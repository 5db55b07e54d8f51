-- How a reader of a text line by line ends: at a refused line, or after all lines. The proofs of
-- readers of such texts end with these.
use Rattle.std.proofs.Common.{◌≡◌, ℕ, List, ◌∷◌, Option, Some, None, Ok, Err, refl}
use Rattle.field_lines.specs.Line.{first_refused, unless_refused}

-- A line that is not allowed, after none that was refused, is the answer of the whole text.
pub refused_here : {A B : Type 0} (says : List ℕ → Option A) (number : ℕ) (line : List ℕ) (others : List (List ℕ)) (refused : Option ℕ) (whole : B) → None ≡ says line → first_refused says number (line ∷ others) ≡ refused → unless_refused refused whole ≡ Err number
refused_here says number line others refused whole bad e =
    let here : first_refused says number (line ∷ others) ≡ Some number = rw (← bad) refl in
    rw (← e, here) refl

-- If no line was refused, what was read is the answer of the whole text.
pub none_refused : {B : Type 0} (refused : Option ℕ) (read all : B) → None ≡ refused → read ≡ all → unless_refused refused all ≡ Ok read
none_refused refused read all none e = rw (← none, e) refl
