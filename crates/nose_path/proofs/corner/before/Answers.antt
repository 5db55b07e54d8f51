-- A leg that begins before its corner; no number is too large (`before`, src/corner.rt).
use Rattle.std.proofs.Common.{subst, sym, arith}
use Rattle.plane_ways.specs.Plane.{IsWithin}
use Rattle.plane_ways.proofs.Directions.{side_within, way_reaches, wider}
use Rattle.nose_path.proofs.corner.before.Goals as goal

pub step_off-requires-clause-by : goal.step_off-requires-clause-by
step_off-requires-clause-by c =
    let sum = way_reaches 1000000000000 1000000000000 c.args.e.now c.turned.result c.requires.e.0 (side_within c.args.nose.now.side c.args.e.now c.turned.result c.requires.e c.turned.ensures) in
    wider 2000000000000 10000000000000000000000000 c.way-by.result (omega arith) (subst (IsWithin 2000000000000) (sym c.way-by.ensures) sum)
