-- In a clear zone any two points that the paths may pass differ by more than the gap in X or in Z,
-- whatever the timing of their moves between these meetings (the law `clear_zones_keep_apart`,
-- src/laws.rt).
use Rattle.zone_check.proofs.laws.clear_zones_keep_apart.Goals as goal

pub returns : goal.returns
returns c = λ d zones s p q some clear left right.
    c.clear_areas_keep_apart.ensures d zones.gap zones.frames.one zones.frames.two s.left_at s.right_at s.left s.right p q some clear left right
