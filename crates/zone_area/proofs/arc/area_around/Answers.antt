-- The four edges that the code computes in 64 bits are those of the area around the middle
-- (`area_around`, src/arc.rt).
use Rattle.std.proofs.Common.{arith}
use Rattle.std.proofs.lemmas.Int.{ints}
use Rattle.zone_area.specs.Area.{area_around}
use Rattle.zone_area.proofs.Squares.{same_area}
use Rattle.zone_area.proofs.arc.area_around.Goals as goal

pub returns-clause-area : goal.returns-clause-area
returns-clause-area c =
    let x = c.requires.middle.0 in
    let z = c.requires.middle.1 in
    let reach = c.requires.reach in
    same_area _ (area_around c.args.middle.now c.args.reach) (omega (arith, ints)) (omega (arith, ints)) (omega (arith, ints)) (omega (arith, ints))
