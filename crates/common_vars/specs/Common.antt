-- The common variables #100 to #199 and #500 to #999 of one path: which numbers they have, what
-- they hold, and what a write makes of them. Those that the paths share are in Writes.
use Rattle.std.specs.Prelude.{ℕ, ◌≤◌, ◌==◌, ◌⊎◌, Bool, ◌&&◌, ◌||◌, nat_le, List, [], ◌∷◌, Option, None, Some, replicate, slice_index_or, slice_set, if◌then◌else◌}
use Rattle.std.specs.Option.{option_or}
use Rattle.nc_number.specs.declared.value.Var.{Var}
use Rattle.nc_number.specs.declared.value.Var.TheVariants.{Vacant}

-- the number names a common variable
abbrev pub IsCommon : ℕ → Type 0
IsCommon v = ((100 ≤ v) × (v ≤ 199)) ⊎ ((500 ≤ v) × (v ≤ 999))

-- the number names a common variable, as a test
abbrev pub is_common : ℕ → Bool
is_common v = (nat_le 100 v && nat_le v 199) || (nat_le 500 v && nat_le v 999)

-- the common variable of a number, if it names one: 100 to 199 and 500 to 999 do
abbrev pub common_number : ℕ → Option ℕ
common_number v = if is_common v then Some v else None

-- the variables of one path, each at its own number (0 to 999), while none was written
abbrev pub none_written : List Var
none_written = replicate 1000 Vacant

-- what variable v of a path holds
abbrev pub value_of : ℕ → List Var → Var
value_of v own = slice_index_or own v Vacant

-- the variables of a path after v was written
abbrev pub with_value : ℕ → Var → List Var → List Var
with_value v to own = slice_set own v to

-- the variables after a list of writes, each a number and what was written
abbrev pub after_writes : List (ℕ × Var) → List Var → List Var
after_writes [] own = own
after_writes (w ∷ later) own = after_writes later (with_value w.0 w.1 own)

-- what the latest write of v wrote, if there is one
abbrev pub latest_of : ℕ → List (ℕ × Var) → Option Var
latest_of v [] = None
latest_of v (w ∷ later) = option_or (latest_of v later) (if w.0 == v then Some w.1 else None)

-- each of the writes is of a common variable
abbrev pub AreCommon : List (ℕ × Var) → Type 0
AreCommon [] = Unit {0}
AreCommon (w ∷ later) = IsCommon w.0 × AreCommon later
