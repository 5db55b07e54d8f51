-- Signs of numbers, where true is a minus. The arithmetic and the literals of this crate are made
-- with them.
use Rattle.std.specs.Prelude.{ℕ, Bool, true, false, not, if◌then◌else◌, ℤ, pos, neg_ℤ}

-- z, or -z where the sign is a minus
abbrev pub signed_number : Bool → ℤ → ℤ
signed_number minus z = if minus then neg_ℤ z else z

-- n, or -n where the sign is a minus
abbrev pub with_sign : Bool → ℕ → ℤ
with_sign minus n = if minus then neg_ℤ (pos n) else pos n

-- one of the two signs is a minus, and not both
abbrev pub differ : Bool → Bool → Bool
differ true b = not b
differ false b = b
