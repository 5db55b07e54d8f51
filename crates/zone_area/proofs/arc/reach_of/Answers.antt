-- By I and K, the root of the greater squared distance from the centre to an end, rounded up, is
-- the reach of the arc (`reach_of`, src/arc.rt).
use Rattle.std.proofs.Common.{ap, sym, ◌∙◌}
use Rattle.zone_area.specs.Passing.{middle_of}
use Rattle.zone_area.specs.Area.{reach_of}
use Rattle.zone_area.proofs.Squares.{root_reached}
use Rattle.zone_area.proofs.arc.reach_of.Goals as goal

pub returns-in-Offset-clause-reach : goal.returns-in-Offset-clause-reach
returns-in-Offset-clause-reach c =
    let at = c.args.at.now in
    let to = c.args.to.now in
    root_reached at to c.middle_of-middle.result c.in-Offset.i c.in-Offset.k _ _ _ c.least_root.result
    (c.middle_of-middle.ensures.middle ∙ ap (middle_of at) (c.in-Offset.is)) c.square_between.ensures.square c.square_between-in-Offset.ensures.square c.max.ensures c.least_root.ensures.root
    ∙ ap (reach_of at to) (sym (c.in-Offset.is))
