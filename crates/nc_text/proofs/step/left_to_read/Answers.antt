-- A tape's text that is refused is refused without its rest too (`left_to_read`, src/step.rt).
use Rattle.nc_text.proofs.Standing.{nothing_left}
use Rattle.nc_text.proofs.step.left_to_read.Goals as goal

pub returns-in-Refused-clause-same : goal.returns-in-Refused-clause-same
returns-in-Refused-clause-same c = nothing_left c.args.stage c.in-Refused.field-0 c.args.text.now c.split_at.result.0.now c.in-Refused.is c.split_at.ensures.front
