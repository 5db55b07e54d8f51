-- The point lies so far from p (`moved_by`, src/contour.rt).
use Rattle.std.proofs.Common.{arith}
use Rattle.std.proofs.lemmas.Int.{ints}
use Rattle.nc_number.proofs.Points.{same_point}
use Rattle.arc_contour.proofs.contour.moved_by.Goals as goal

pub returns-clause-moved : goal.returns-clause-moved
returns-clause-moved c = same_point _ _ (omega (arith, ints)) (omega (arith, ints))
