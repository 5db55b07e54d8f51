-- The way between two places (`way`, src/ways.rt).
use Rattle.plane_ways.proofs.Stored.{same_place, difference_is}
use Rattle.plane_ways.proofs.ways.way.Goals as goal

pub returns : goal.returns
returns c = same_place _ _ _ _
    (difference_is c.args.to.now.across c.args.from.now.across c.requires.to.0 c.requires.from.0)
    (difference_is c.args.to.now.along c.args.from.now.along c.requires.to.1 c.requires.from.1)
