-- Both bounds of an arc that ends on its circle are one.
use Rattle.arc_contour.proofs.Contours.{bulges_are_one, hollows_are_one}
use Rattle.arc_contour.proofs.law.the_bounds_are_one.Goals as goal

pub returns-clause-bulge : goal.returns-clause-bulge
returns-clause-bulge c = bulges_are_one

pub returns-clause-hollow : goal.returns-clause-hollow
returns-clause-hollow c = hollows_are_one
