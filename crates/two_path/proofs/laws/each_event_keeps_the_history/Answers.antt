-- The machine stays the fold of its records over each event and each record done again
-- (src/laws.rt).
use Rattle.two_path.proofs.Kept.{keeps}
use Rattle.two_path.proofs.laws.each_event_keeps_the_history.Goals as goal

pub returns : goal.returns
returns c = keeps
