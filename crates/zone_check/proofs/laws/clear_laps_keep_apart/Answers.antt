-- In a segment where nothing is hit the bodies keep the gap (the law `clear_laps_keep_apart`,
-- src/laws.rt).
use Rattle.zone_check.proofs.laws.clear_laps_keep_apart.Goals as goal

pub returns : goal.returns
returns c d cell lap p q some none touch touches =
    c.clear_moves_keep_apart.ensures d cell lap.left_tool lap.right_tool lap.left_at lap.right_at lap.left lap.right p q some none touch touches
