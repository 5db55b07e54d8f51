-- How long the lengths that a block says can be, so that sums of them stay within 64 bits.
use Rattle.std.specs.Prelude.{ℕ}
use Rattle.nc_number.specs.declared.limits.TheConstants.{LONGEST_SAID}
use Rattle.motion_track.specs.Centre.{IsLengthWithin}
use Rattle.block_values.specs.declared.values.Values.{Values}

-- the longest length that a number of a tape or a value can make, in 0.001 mm
abbrev pub longest_said : ℕ
longest_said = LONGEST_SAID

-- none of the lengths that words said is longer than `longest_said`
pub record AreLengthsSaid (said : Values) : Type 0 where
  pub x : IsLengthWithin longest_said said.x
  pub z : IsLengthWithin longest_said said.z
  pub u : IsLengthWithin longest_said said.u
  pub w : IsLengthWithin longest_said said.w
  pub i : IsLengthWithin longest_said said.i
  pub k : IsLengthWithin longest_said said.k
  pub r : IsLengthWithin longest_said said.r
