-- Each half of a list of two stretches or more is shorter (`first_pair`, src/pairs.rt).
use Rattle.std.proofs.Common.{length}
use Rattle.zone_moves.proofs.pairs.+first_pair.Given as goal

abbrev pub decreases-first_pair : goal.decreases-first_pair
decreases-first_pair l = length l.left.now
