-- The tests say what the written points keep (`corners_lie_on_their_lines`, src/law.rt).
use Rattle.corner_form.proofs.CornersKeep.{chamfer_keeps, rounding_keeps}
use Rattle.corner_form.proofs.law.corners_lie_on_their_lines.Goals as goal

pub returns-clause-chamfer : goal.returns-clause-chamfer
returns-clause-chamfer c = chamfer_keeps

pub returns-clause-rounding : goal.returns-clause-rounding
returns-clause-rounding c = rounding_keeps
