-- Where a step leads (`stepped`, src/steps.rt).
use Rattle.plane_ways.proofs.Directions.{stepped_is}
use Rattle.plane_ways.proofs.steps.stepped.Goals as goal

pub returns : goal.returns
returns c = stepped_is c.args.p.now c.args.by.now c.args.d c.from_zero.result c.from_zero-2.result c.requires.p c.requires.by c.from_zero.ensures.quotient c.from_zero-2.ensures.quotient c.from_zero.ensures.bound c.from_zero-2.ensures.bound
