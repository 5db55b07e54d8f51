-- The squares along X and along Z, as the code adds them up, are the square of the distance in
-- 0.0005 mm (`square_between`, src/arc.rt).
use Rattle.std.proofs.Common.{arith}
use Rattle.zone_area.proofs.Squares.{squares_between, distance_stored}
use Rattle.zone_area.proofs.arc.square_between.Goals as goal

pub returns-clause-square : goal.returns-clause-square
returns-clause-square c =
    let a = c.args.a.now in
    let b = c.args.b.now in
    let a_x = c.requires.a.0 in
    let a_z = c.requires.a.1 in
    let b_x = c.requires.b.0 in
    let b_z = c.requires.b.1 in
    squares_between a b c.abs_diff.result c.abs_diff-2.result c.squared.result c.squared-2.result
    (distance_stored c.abs_diff.result a.x b.x (omega arith) (omega arith) c.abs_diff.ensures)
    (distance_stored c.abs_diff-2.result a.z b.z (omega arith) (omega arith) c.abs_diff-2.ensures)
    c.squared.ensures.square c.squared-2.ensures.square
