-- For the proof of `refuse` (src/judging.rt): the line of the refusal is put, with status 1; if
-- memory ran out nothing is put.
use Rattle.lathe_calls.proofs.Ended.{ends_put, ends_untold}
use Rattle.lathe_calls.proofs.VerdictTold.{refusing, refusing_nothing}
use Rattle.lathe_calls.proofs.judging.refuse.Goals as goal

pub returns-in-Fault : goal.returns-in-Fault
returns-in-Fault g c =
    rw (c.status_behind.ensures)
    (ends_put 1 c.write_verdict.result (refusing _ _ c.in-Fault.is c.write_verdict.ensures.1) c.write_verdict.ensures.2)

pub returns-in-NoMemory : goal.returns-in-NoMemory
returns-in-NoMemory g c = ends_untold _ (refusing_nothing _ c.in-NoMemory.is)
