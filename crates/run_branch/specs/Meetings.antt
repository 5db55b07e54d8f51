-- The meetings of a run, and how far a branch reaches.
use Rattle.std.specs.Prelude.{◌≡◌, ℕ, zero, suc, ◌+◌, ◌≤◌, ◌<◌, List, [], ◌∷◌, length, take, Option, Some, None, if◌then◌else◌}
use Rattle.std.specs.Option.{option_map}
use Rattle.run_records.specs.Entries.{Entry, is_meeting}

-- how many meetings the records have: how many of them say that a path has met the other at a wait
abbrev pub meetings : List Entry → ℕ
meetings [] = 0
meetings (entry ∷ entries) = (if is_meeting entry.kind then 1 else 0) + meetings entries

-- how long the shortest prefix of the records is that has n meetings, if they have so many
abbrev pub branch_point : ℕ → List Entry → Option ℕ
branch_point zero entries = Some 0
branch_point (suc n) [] = None
branch_point (suc n) (entry ∷ entries) =
    option_map suc (branch_point (if is_meeting entry.kind then n else suc n) entries)

-- the prefix of this length has n meetings, and each shorter one has fewer
pub record IsBranchPoint (n : ℕ) (entries : List Entry) (k : ℕ) : Type 0 where
  -- it is a prefix of the records
  pub within : k ≤ length entries
  -- it has n meetings
  pub has : meetings (take k entries) ≡ n
  -- each shorter one has fewer
  pub least : (j : ℕ) → j < k → meetings (take j entries) < n
