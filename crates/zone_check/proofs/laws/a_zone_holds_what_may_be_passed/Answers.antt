-- Each point that a path may pass in a segment lies in its area, in the cell, however finely points
-- are counted (the law `a_zone_holds_what_may_be_passed`, src/laws.rt).
use Rattle.zone_check.proofs.laws.a_zone_holds_what_may_be_passed.Goals as goal

pub returns-clause-left : goal.returns-clause-left
returns-clause-left c = λ d zones s p passed.
    c.an_area_in_the_cell_holds_what_may_be_passed.ensures d zones.frames.one s.left_at s.left p passed

pub returns-clause-right : goal.returns-clause-right
returns-clause-right c = λ d zones s q passed.
    c.an_area_in_the_cell_holds_what_may_be_passed.ensures d zones.frames.two s.right_at s.right q passed
