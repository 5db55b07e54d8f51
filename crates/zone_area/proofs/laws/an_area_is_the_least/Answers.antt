-- The area of moves holds their ends and the reach of their arcs, and lies within each other that
-- does (the law `an_area_is_the_least`, src/laws.rt).
use Rattle.zone_area.proofs.Least.{area_holds, area_is_least}
use Rattle.zone_area.proofs.laws.an_area_is_the_least.Goals as goal

pub returns-clause-holds : goal.returns-clause-holds
returns-clause-holds c = area_holds

pub returns-clause-least : goal.returns-clause-least
returns-clause-least c = area_is_least
