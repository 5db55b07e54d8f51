-- The ranges of the numbers of offsets: 0 to 6 of work offsets, 1 to 64 of tool offsets. Slots and
-- src/number.rt go by it.
use Rattle.std.specs.Prelude.{ℕ, Bool, not, ◌&&◌, nat_le, if◌then◌else◌, Option, Some, None, ℤ, unsigned_abs}
use Rattle.std.specs.Int.{is_negative}
use Rattle.nc_number.specs.declared.point.TheConstants.{TOOL_OFFSETS}
use Rattle.offset_store.specs.declared.number.TheConstants.{LAST_WORK}

-- n lies from low to high
abbrev pub is_between : ℕ → ℕ → ℤ → Bool
is_between low high n = not (is_negative n) && (nat_le low (unsigned_abs n) && nat_le (unsigned_abs n) high)

-- the work offset of a number, if it is one of 0 to 6
abbrev pub work_number : ℤ → Option ℕ
work_number n = if is_between 0 LAST_WORK n then Some (unsigned_abs n) else None

-- the tool offset of a number, if it is one of 1 to 64
abbrev pub tool_number : ℤ → Option ℕ
tool_number n = if is_between 1 TOOL_OFFSETS n then Some (unsigned_abs n) else None
