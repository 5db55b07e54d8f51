-- One text for each of consecutive numbers, joined.
-- No other crate cites it: State says with it the lines of a listing.
use Rattle.std.specs.Prelude.{ℕ, zero, suc, ◌+◌, List, [], ◌++◌}

-- the texts of so many consecutive numbers, from n on, joined
unfoldable pub each_from : (ℕ → List ℕ) → ℕ → ℕ → List ℕ
each_from text n zero = []
each_from text n (suc more) = text n ++ each_from text (n + 1) more
