-- What the two loops of `early_moments_of_many_writes_are_found_at_once` (src/writes.rt) keep: the
-- shared variables begin at 500; while writing there is room for the writes to come, and none so
-- far is later than the next stamp.
use Rattle.std.proofs.Common.{◌≡◌, ◌≤◌, ◌+◌, All}
use Rattle.number_vectors.proofs.writes.early_moments_of_many_writes_are_found_at_once.Given as goal

abbrev pub invariant-loop-stamp : goal.invariant-loop-stamp
invariant-loop-stamp g l = record {
  upper : l.shared.shared500 ≡ 500;
  room : 200000 ≤ l.stamp + l.shared.room;
  early : All (λ w. w.stamp ≤ l.stamp) l.shared.writes;
}

abbrev pub invariant-loop-stamp-2 : goal.invariant-loop-stamp-2
invariant-loop-stamp-2 g l = l.shared.shared500 ≡ 500
