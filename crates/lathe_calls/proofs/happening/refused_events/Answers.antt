-- For the proof of `refused_events` (src/happening.rt): refused texts have no events, and status 1.
use Rattle.lathe_calls.proofs.happening.refused_events.Goals as goal

pub returns-in-Fault : goal.returns-in-Fault
returns-in-Fault c = (c.nothing_happened.ensures.status, c.nothing_happened.ensures.list, (c.in-Fault.refusal, c.in-Fault.is))
