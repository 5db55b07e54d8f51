-- The shared variables as the list of their writes, earliest first, and what each holds after so
-- many records.
use Rattle.std.specs.Prelude.{ℕ, Bool, ◌+◌, ◌<◌, ◌≤◌, ◌==◌, ◌&&◌, ◌⊎◌, nat_le, List, [], ◌∷◌, Option, None, Some, unwrap_or, if◌then◌else◌}
use Rattle.std.specs.Option.{option_or}
use Rattle.nc_number.specs.declared.value.Var.{Var}
use Rattle.nc_number.specs.declared.value.Var.TheVariants.{Vacant}
use Rattle.common_vars.specs.declared.links.Write.{Write}

-- What contracts see: how many variables from #100 on and from #500 on are shared, the writes, and
-- how many more there is room for.
pub record Writes : Type 0 where
  -- how many variables from #100 on are shared
  pub shared100 : ℕ
  -- how many variables from #500 on are shared
  pub shared500 : ℕ
  -- the writes so far, earliest first
  pub writes : List Write
  -- for how many more writes there is room
  pub room : ℕ

-- v is shared, if so many from #100 on and so many from #500 on are
abbrev pub IsShared : ℕ → ℕ → ℕ → Type 0
IsShared shared100 shared500 v =
    ((100 ≤ v) × (v < 100 + shared100)) ⊎ ((500 ≤ v) × (v < 500 + shared500))

-- w is a write of v by one of the first k records
abbrev pub is_write_of : ℕ → ℕ → Write → Bool
is_write_of k v w = (w.variable == v) && nat_le w.stamp k

-- what the latest write of v by one of the first k records wrote, if there is one
abbrev pub latest_write : ℕ → ℕ → List Write → Option Var
latest_write k v [] = None
latest_write k v (w ∷ later) =
    option_or (latest_write k v later) (if is_write_of k v w then Some w.value else None)

-- what v holds after the first k records: vacant, if it was not written
abbrev pub value_after : ℕ → ℕ → List Write → Var
value_after k v writes = unwrap_or (latest_write k v writes) Vacant
