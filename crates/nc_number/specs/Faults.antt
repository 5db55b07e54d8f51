-- Counts of the faults of a device of the outside, such as a disk: they never fall.
use Rattle.std.specs.Prelude.{ℕ, ◌+◌, ◌-◌, ◌^◌, ◌≤◌, min}

-- a count of faults after one more, which stays at the greatest that it can be
abbrev pub next : ℕ → ℕ
next n = min (n + 1) (2 ^ 64 - 1)

-- a count of faults rose by one or more, or stands at the greatest that it can be
abbrev pub Rose : ℕ → ℕ → Type 0
Rose before now = next before ≤ now
