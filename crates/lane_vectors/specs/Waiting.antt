-- When a path waits at the table in memory of the tests of seats, whose paths take strict turns,
-- path 1 first.
-- For this crate alone: src/seats/memory.rt.
use Rattle.std.specs.Prelude.{ℕ, Bool, ◌&&◌, nat_lt, nat_le}
use Rattle.nc_number.specs.declared.path.Path.{Path}
use Rattle.nc_number.specs.declared.path.Path.TheVariants.{One, Two}

-- While the table runs, path 1 waits if it has more records than path 2, and path 2 if it has at
-- least as many as path 1 and fewer than its goal.
abbrev pub waits_at : Path → Bool → ℕ → ℕ → ℕ → Bool
waits_at One runs first second goal = runs && nat_lt second first
waits_at Two runs first second goal = runs && (nat_lt second goal && nat_le first second)
