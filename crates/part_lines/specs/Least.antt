-- The least of some lines of a tape, of which there may be none. `IsLine` says of a number whether
-- it is one of the lines.
use Rattle.std.specs.Prelude.{ℕ, ◌≤◌, Option, Some, None}

-- It is one of the lines, and none is less; or it is none, and there is no line.
abbrev pub IsLeast : (ℕ → Type 0) → Option ℕ → Type 0
IsLeast IsLine None = (k : ℕ) → IsLine k → ⊥
IsLeast IsLine (Some line) = IsLine line × ((k : ℕ) → IsLine k → line ≤ k)
