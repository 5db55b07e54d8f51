-- How the search for an early value of a shared variable, along the links of its writes, begins,
-- and why it ends. For the loop of `value_at` (src/links.rt).
use Rattle.std.proofs.Common.{ℕ, ◌+◌, List, Option, None, Some, length}
use Rattle.common_vars.specs.declared.links.Node.{Node}
use Rattle.common_vars.specs.Links.{IsPast, IsLatestBefore}

-- the measure of the search: a bound for the steps that are left from a place, 0 without one
abbrev pub steps_left : Option ℕ → ℕ
steps_left None = 0
steps_left (Some i) = i + 1

-- at the latest node of a variable no later write of it is left out
starts : (nodes : List Node) (k v : ℕ) (latest : Option ℕ) → IsLatestBefore nodes (length nodes) v latest → IsPast nodes k v latest
starts nodes k v None none = λ j inside same. absurd (none j inside same)
starts nodes k v (Some i) latest = (latest.0, latest.1, λ j behind inside same. absurd (latest.2 j behind inside same))
