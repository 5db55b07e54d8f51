-- A direction has a length (`length`, src/steps.rt).
use Rattle.plane_ways.specs.Plane.{square}
use Rattle.plane_ways.proofs.Directions.{root_some}
use Rattle.plane_ways.proofs.steps.length.Goals as goal

pub returns-clause-some : goal.returns-clause-some
returns-clause-some c = rw c.length_of.ensures.length (root_some (square c.args.d.now) c.requires.1)
