-- Steps that may have no value, one after the other: `do` over options. And numbers that may be
-- missing. For steps that may fail see Results.antt.
use Rattle.std.specs.Prelude.{ℕ, Bool, false, ◌==◌, min, Option, Some, None, option_and_then}

-- the second step goes on with the first one's value; if that is missing, so is that of both
infixl 10 ◌>>=◌
abbrev pub ◌>>=◌ : {A B : Type 0} → Option A → (A → Option B) → Option B
o >>= f = option_and_then f o

-- there is a number, and it is n
abbrev pub is_some_of : ℕ → Option ℕ → Bool
is_some_of n None = false
is_some_of n (Some own) = own == n

-- the lesser of two numbers, or the one that there is, if there is one
abbrev pub lesser : Option ℕ → Option ℕ → Option ℕ
lesser None other = other
lesser (Some a) None = Some a
lesser (Some a) (Some b) = Some (min a b)
