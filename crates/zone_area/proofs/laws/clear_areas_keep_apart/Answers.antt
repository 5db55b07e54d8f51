-- Where the areas of the moves of two paths are clear in the cell, any two points that they may
-- pass there differ by more than the gap in X or in Z (the law `clear_areas_keep_apart`,
-- src/laws.rt).
use Rattle.zone_area.proofs.Apart.{segments_apart}
use Rattle.zone_area.proofs.laws.clear_areas_keep_apart.Goals as goal

pub returns : goal.returns
returns c = segments_apart
