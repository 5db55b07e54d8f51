-- As it lies in the cell, the area of moves holds every point that they may pass (the law
-- `an_area_in_the_cell_holds_what_may_be_passed`, src/laws.rt).
use Rattle.zone_area.proofs.Apart.{cell_holds}
use Rattle.zone_area.proofs.laws.an_area_in_the_cell_holds_what_may_be_passed.Goals as goal

pub returns : goal.returns
returns c = cell_holds
