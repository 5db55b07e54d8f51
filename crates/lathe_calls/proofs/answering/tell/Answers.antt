-- For the proof of `tell` (src/answering.rt): each question is answered by the text that is due to
-- it, with its status; only a fault of the sink or running out of memory may come instead.
use Rattle.lathe_calls.proofs.answering.tell.Goals as goal

pub returns-in-Verify : goal.returns-in-Verify
returns-in-Verify g c = rw (c.in-Verify.is) c.judge.ensures

pub returns-in-Run : goal.returns-in-Run
returns-in-Run g c = rw (c.in-Run.is) c.report.ensures

pub returns-in-Trace : goal.returns-in-Trace
returns-in-Trace g c = rw (c.in-Trace.is) c.trace.ensures

pub returns-in-State : goal.returns-in-State
returns-in-State g c = rw (c.in-State.is) c.show.ensures

pub returns-in-Waits : goal.returns-in-Waits
returns-in-Waits g c = rw (c.in-Waits.is) c.judge_waits.ensures

pub returns-in-Races : goal.returns-in-Races
returns-in-Races g c = rw (c.in-Races.is) c.list_races.ensures
