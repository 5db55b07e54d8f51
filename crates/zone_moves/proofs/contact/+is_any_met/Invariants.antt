-- Each part is shorter, as the other one has a stretch (`is_any_met`, src/contact.rt).
use Rattle.std.proofs.Common.{length}
use Rattle.zone_moves.proofs.contact.+is_any_met.Given as goal

abbrev pub decreases-is_any_met : goal.decreases-is_any_met
decreases-is_any_met l = length l.left.now
