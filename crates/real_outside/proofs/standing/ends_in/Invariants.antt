-- For the loop of `ends_in` (src/standing.rt): each record takes the place further.
use Rattle.std.proofs.Common.{length, ◌-◌}
use Rattle.real_outside.proofs.standing.ends_in.Given as goal

abbrev pub decreases-loop-at : goal.decreases-loop-at
decreases-loop-at l = length l.batch - l.at
