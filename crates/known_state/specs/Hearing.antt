-- When the values of a block's words are as they were heard.
use Rattle.std.specs.Prelude.{ℕ, Option, ℤ}
use Rattle.nc_number.specs.declared.value.Var.{Var}
use Rattle.block_values.specs.Values.{Values}
use Rattle.known_blocks.specs.declared.heard.Heard.{Heard}
use Rattle.known_state.specs.Agreement.{IsSo}

-- these values are as they were heard
pub record AreHeard (heard : Heard) (to_x to_z by_u by_w : Option ℤ) (f : Var) (t : Option ℕ) : Type 0 where
  pub x : IsSo heard.x to_x
  pub z : IsSo heard.z to_z
  pub u : IsSo heard.u by_u
  pub w : IsSo heard.w by_w
  pub feed : IsSo heard.feed f
  pub tool : IsSo heard.tool t

-- the values of a block are as they were heard
abbrev pub IsHeard : Heard → Values → Type 0
IsHeard heard values = AreHeard heard values.x values.z values.u values.w values.feed values.tool
