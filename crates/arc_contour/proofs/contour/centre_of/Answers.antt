-- The centre lies I and K from the start (`centre_of`, src/contour.rt).
use Rattle.std.proofs.Common.{◌∙◌, arith}
use Rattle.std.proofs.lemmas.Int.{ints}
use Rattle.nc_number.proofs.Points.{same_point}
use Rattle.arc_contour.proofs.contour.centre_of.Goals as goal

pub returns-in-Along-clause-centre : goal.returns-in-Along-clause-centre
returns-in-Along-clause-centre c = c.moved_by.ensures.moved ∙ rw (c.in-Along.is) (same_point _ _ (omega (arith, ints)) (omega (arith, ints)))

pub returns-in-Across-clause-centre : goal.returns-in-Across-clause-centre
returns-in-Across-clause-centre c = c.moved_by-in-Across.ensures.moved ∙ rw (c.in-Across.is) (same_point _ _ (omega (arith, ints)) (omega (arith, ints)))
