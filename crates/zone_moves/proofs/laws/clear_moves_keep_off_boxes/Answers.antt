-- Where nothing is hit the body of each path keeps the gap from the boxes that bar it (the law
-- `clear_moves_keep_off_boxes`, src/laws.rt).
use Rattle.zone_moves.proofs.Kept.{left_kept_off, right_kept_off}
use Rattle.zone_moves.proofs.laws.clear_moves_keep_off_boxes.Goals as goal

pub returns-clause-left : goal.returns-clause-left
returns-clause-left c = left_kept_off

pub returns-clause-right : goal.returns-clause-right
returns-clause-right c = right_kept_off
