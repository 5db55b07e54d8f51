-- For the proof of `work` (src/seats/paths.rt): the pass that comes back is of the same table and
-- path.
use Rattle.std.proofs.Common.{ap, ◌∙◌}
use Rattle.lane_vectors.proofs.seats.paths.work.Goals as goal

pub returns : goal.returns
returns g c = (
  ap (λ p. p.table) c.into_pass.ensures.pass ∙ (ap (λ o. o.0.table_id) c.walk-codes.ensures.origin ∙ (ap (λ p. p.table) c.stepper-stepper.ensures ∙ c.requires.table)),
  ap (λ p. p.path) c.into_pass.ensures.pass ∙ (ap (λ o. o.1) c.walk-codes.ensures.origin ∙ ap (λ p. p.path) c.stepper-stepper.ensures),
)
