-- Where a step to the nearest leads (`nearest_stepped`, src/steps.rt).
use Rattle.plane_ways.proofs.Directions.{nearest_stepped_is}
use Rattle.plane_ways.proofs.steps.nearest_stepped.Goals as goal

pub returns : goal.returns
returns c = nearest_stepped_is c.args.p.now c.args.by.now c.args.d c.nearest_part.result c.nearest_part-2.result c.requires.p c.requires.by c.nearest_part.ensures.quotient c.nearest_part-2.ensures.quotient c.nearest_part.ensures.bound c.nearest_part-2.ensures.bound
