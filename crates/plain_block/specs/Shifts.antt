-- A length moved down or up. src/shift.rt computes it.
use Rattle.std.specs.Prelude.{ℕ, Bool, ℤ, pos, ◌+ℤ◌, ◌-ℤ◌, if◌then◌else◌}

-- a length moved by so much, down or up
abbrev pub moved : Bool → ℤ → ℕ → ℤ
moved down length by = if down then length -ℤ pos by else length +ℤ pos by
