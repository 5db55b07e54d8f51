-- Two runs of a pair whose paths take turns, up to the same number of records, have the same
-- records (the law `one_run_in_turn`, src/laws.rt).
use Rattle.turn_order.proofs.OneRun.{one_run}
use Rattle.turn_order.proofs.laws.one_run_in_turn.Goals as goal

pub returns : goal.returns
returns c = λ tapes first second limit one two a b. one_run tapes first second limit (c.histories_are_runs.ensures tapes first second) one two a b
