-- Where a branch ends is found by a search of the records that are left for the meetings that are
-- left (loop of `branch_point`, src/branching.rt).
use Rattle.std.proofs.Common.{◌≡◌, ◌+◌, ◌-◌, ◌≤◌, ℕ, length, drop}
use Rattle.std.specs.Option.{option_map}
use Rattle.run_branch.specs.Meetings.{branch_point}
use Rattle.run_branch.proofs.branching.branch_point.Given as goal

abbrev pub invariant-loop-left : goal.invariant-loop-left
invariant-loop-left l = record {
  looked : branch_point l.n l.entries.items ≡ option_map (λ (k : ℕ). l.index + k) (branch_point l.left (drop l.index l.entries.items));
  within : l.index ≤ length l.entries.items;
}

abbrev pub decreases-loop-left : goal.decreases-loop-left
decreases-loop-left l = length l.entries.items - l.index
