-- Where nothing is hit the bodies of the paths keep the gap (the law `clear_moves_keep_apart`,
-- src/laws.rt).
use Rattle.zone_moves.proofs.Kept.{kept_apart}
use Rattle.zone_moves.proofs.laws.clear_moves_keep_apart.Goals as goal

pub returns : goal.returns
returns c = kept_apart
