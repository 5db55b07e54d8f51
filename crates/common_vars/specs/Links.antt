-- How the writes of a shared variable are linked, so that an early one is found without passing
-- each.
-- For src/links.rt, src/shared.rt and their proofs alone.
use Rattle.std.specs.Prelude.{◌≡◌, ◌≢◌, ℕ, ◌<◌, ◌≤◌, List, Option, None, Some, length, slice_index_or}
use Rattle.nc_number.specs.declared.value.Var.TheVariants.{Vacant}
use Rattle.common_vars.specs.declared.links.Node.{Node}

-- what is read past the end of a list of nodes; nothing hangs on it
abbrev pub no_node : Node
no_node = record { write = record { stamp = 0; variable = 0; value = Vacant }; previous = None; jump = None; span = 0 }

-- the node at a place
abbrev pub node_at : List Node → ℕ → Node
node_at nodes i = slice_index_or nodes i no_node

-- the number of the variable that the node at a place writes
abbrev pub variable_at : List Node → ℕ → ℕ
variable_at nodes i = (node_at nodes i).write.variable

-- from how many records on the write of the node at a place is seen
abbrev pub stamp_at : List Node → ℕ → ℕ
stamp_at nodes i = (node_at nodes i).write.stamp

-- the place, if there is one, is that of the latest write of v before place n
abbrev pub IsLatestBefore : List Node → ℕ → ℕ → Option ℕ → Type 0
IsLatestBefore nodes n v None = (j : ℕ) → j < n → variable_at nodes j ≢ v
IsLatestBefore nodes n v (Some i) =
    (i < n) × (variable_at nodes i ≡ v) × ((j : ℕ) → i < j → j < n → variable_at nodes j ≢ v)

-- the place, if there is one, is that of some write of v before place n
abbrev pub IsSomeBefore : List Node → ℕ → ℕ → Option ℕ → Type 0
IsSomeBefore nodes n v None = Unit {0}
IsSomeBefore nodes n v (Some i) = (i < n) × (variable_at nodes i ≡ v)

-- No write of v after the place is one of the first k records; with no place, no write of v is.
abbrev pub IsPast : List Node → ℕ → ℕ → Option ℕ → Type 0
IsPast nodes k v None = (j : ℕ) → j < length nodes → variable_at nodes j ≡ v → k < stamp_at nodes j
IsPast nodes k v (Some i) =
    (i < length nodes) × (variable_at nodes i ≡ v)
    × ((j : ℕ) → i < j → j < length nodes → variable_at nodes j ≡ v → k < stamp_at nodes j)

-- each node is linked to the write before it of its variable, and to a further one; stamps never
-- fall
pub record AreLinked (nodes : List Node) : Type 0 where
  -- `previous` is the latest write of the same variable before the node
  pub previous : (i : ℕ) → i < length nodes → IsLatestBefore nodes i (variable_at nodes i) (node_at nodes i).previous
  -- `jump` is some write of the same variable before the node
  pub jumps : (i : ℕ) → i < length nodes → IsSomeBefore nodes i (variable_at nodes i) (node_at nodes i).jump
  -- a later node has no lesser stamp
  pub ordered : (i j : ℕ) → i ≤ j → j < length nodes → stamp_at nodes i ≤ stamp_at nodes j

-- the list has the place of each variable's latest node
pub record AreEnds (nodes : List Node) (latest : List (Option ℕ)) : Type 0 where
  -- one place for each number up to 999
  pub sized : length latest ≡ 1000
  -- at each number is the place of the latest write of that variable, if it has one
  pub each : (v : ℕ) → v < 1000 → IsLatestBefore nodes (length nodes) v (slice_index_or latest v None)
