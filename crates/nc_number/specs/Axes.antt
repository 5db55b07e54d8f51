-- What a block says of an axis: nothing, an absolute length or an incremental one, in 0.001 mm.
use Rattle.std.specs.Prelude.{ℕ, ◌≤◌, Bool, true, false, ℤ, unsigned_abs, Option, Some, None}
use Rattle.nc_number.specs.declared.axis.Axis.{Axis}
use Rattle.nc_number.specs.declared.axis.Axis.TheVariants.{Keep, To, By}

-- what an absolute word and an incremental one say: the absolute one counts where both are given
abbrev pub axis_of : Option ℤ → Option ℤ → Axis
axis_of (Some programmed) relative = To programmed
axis_of None (Some way) = By way
axis_of None None = Keep

-- the axis has a word
abbrev pub is_named : Axis → Bool
is_named Keep = false
is_named (To programmed) = true
is_named (By way) = true

-- the axis has no word, or the size of its number is at most `far`
abbrev pub IsAxisWithin : ℕ → Axis → Type 0
IsAxisWithin far Keep = Unit {0}
IsAxisWithin far (To programmed) = unsigned_abs programmed ≤ far
IsAxisWithin far (By way) = unsigned_abs way ≤ far
