-- The hull of two areas of moves is as near as both (`near_hull`, src/swept.rt).
use Rattle.zone_area.specs.Range.{far_corner}
use Rattle.zone_area.proofs.swept.near_hull.Goals as goal

pub returns-clause-near : goal.returns-clause-near
returns-clause-near c = c.hull.ensures.near far_corner c.requires.area c.requires.other
