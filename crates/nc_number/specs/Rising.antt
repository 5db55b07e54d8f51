-- Lists of rising numbers, such as the lines of a tape's blocks.
use Rattle.std.specs.Prelude.{ℕ, ◌<◌, List, [], ◌∷◌}

-- the numbers rise, and all are above n
abbrev pub RiseFrom : ℕ → List ℕ → Type 0
RiseFrom n [] = Unit {0}
RiseFrom n (x ∷ xs) = (n < x) × RiseFrom x xs
