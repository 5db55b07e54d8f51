-- The range of a value, in millionths. The type of values keeps it (src/value.rt).
use Rattle.std.specs.Prelude.{ℤ, Bool, ◌≤◌, nat_le, unsigned_abs}
use Rattle.nc_number.specs.declared.limits.TheConstants.{LARGEST_MICRO}

-- a count of millionths that is a value: at most 99,999,999.999999 either way
abbrev pub InRange : ℤ → Type 0
InRange micro = unsigned_abs micro ≤ LARGEST_MICRO

-- a count of millionths is a value, as a test
abbrev pub is_in_range : ℤ → Bool
is_in_range micro = nat_le (unsigned_abs micro) LARGEST_MICRO
