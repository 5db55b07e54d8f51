-- Many appends to a file of gates, one after another. The public law `appends_leave_prefixes`
-- (src/laws.rt) speaks of them; no other crate cites this file.
use Rattle.std.specs.Prelude.{ℕ, zero, suc, List, [], ◌∷◌, ◌++◌}

-- the bodies that a file has at first, and the first k of those that are appended
abbrev pub bodies_after : List (List ℕ) → (ℕ → List ℕ) → ℕ → List (List ℕ)
bodies_after first body zero = first
bodies_after first body (suc k) = bodies_after first body k ++ body k ∷ []
