-- For the proof of `done_again` (src/tracing.rt): a legal record can be done again, so there is a
-- turn to unwrap.
use Rattle.two_path.proofs.DoneAgain.{is_done}
use Rattle.trace_list.proofs.tracing.done_again.Goals as goal

pub unwrap-requires : goal.unwrap-requires
unwrap-requires c = is_done _ _ _ _ _ c.apply.ensures.refused c.requires.legal
