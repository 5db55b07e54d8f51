-- Each meeting in the trace of a legal history is of the open waits of both paths: it has their
-- code and their lines, and the meetings are numbered from 1 (src/laws.rt).
use Rattle.trace_list.proofs.Paired.{paired}
use Rattle.trace_list.proofs.laws.meetings_are_numbered_and_paired.Goals as goal

pub returns : goal.returns
returns c = paired
