-- A leg that goes past its corner; no number is too large (`past`, src/corner.rt).
use Rattle.std.proofs.Common.{subst, sym, arith}
use Rattle.plane_ways.specs.Plane.{IsWithin}
use Rattle.plane_ways.proofs.Directions.{side_within, plus_within, wider}
use Rattle.nose_path.proofs.corner.past.Goals as goal

pub step_off-requires-clause-by : goal.step_off-requires-clause-by
step_off-requires-clause-by c =
    let sum = plus_within 1000000000000 1000000000000 c.turned.result c.args.d.now (side_within c.args.nose.now.side c.args.d.now c.turned.result c.requires.d c.turned.ensures) c.requires.d.0 in
    wider 2000000000000 10000000000000000000000000 c.plus-by.result (omega arith) (subst (IsWithin 2000000000000) (sym c.plus-by.ensures) sum)
