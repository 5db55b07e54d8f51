-- For the loop of `copy_front` (src/pieces.rt): the place so far is no further than the end.
use Rattle.std.proofs.Common.{◌-◌}
use Rattle.real_outside.proofs.pieces.copy_front.Given as goal

abbrev pub decreases-loop-at : goal.decreases-loop-at
decreases-loop-at g l = l.end - l.at
