-- Each area that holds the ends of moves and the reach of their arcs holds every point that one of
-- the moves may pass, however finely points are counted (the law
-- `an_area_holds_what_may_be_passed`, src/laws.rt).
use Rattle.zone_area.proofs.InArea.{all_inside}
use Rattle.zone_area.proofs.laws.an_area_holds_what_may_be_passed.Goals as goal

pub returns : goal.returns
returns c = all_inside
