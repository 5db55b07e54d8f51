-- Steps that may fail, one after the other: `do` over results.
use Rattle.std.specs.Prelude.{Result, Ok, Err}

-- the second step goes on with what the first gave; a failure of the first is that of both
infixl 10 ◌>>=◌
abbrev pub ◌>>=◌ : {A B E : Type 0} → Result A E → (A → Result B E) → Result B E
(Ok x) >>= f = f x
(Err e) >>= f = Err e
