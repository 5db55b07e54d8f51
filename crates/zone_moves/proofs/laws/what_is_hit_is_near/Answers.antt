-- What is hit does come within the gap (the law `what_is_hit_is_near`, src/laws.rt).
use Rattle.zone_moves.proofs.Near.{true_hit}
use Rattle.zone_moves.proofs.laws.what_is_hit_is_near.Goals as goal

pub returns : goal.returns
returns c = true_hit
