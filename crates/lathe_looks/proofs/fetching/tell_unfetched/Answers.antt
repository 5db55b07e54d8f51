-- For the proof of `tell_unfetched` (src/fetching.rt): the file's status and line are told; if
-- memory ran out, nothing is.
use Rattle.std.proofs.Common.{sym, ap}
use Rattle.lathe_looks.specs.Fetched.{unfetched_answer}
use Rattle.lathe_calls.proofs.Ended.{ends_untold}
use Rattle.lathe_looks.proofs.fetching.tell_unfetched.Goals as goal

pub returns-in-Fault : goal.returns-in-Fault
returns-in-Fault g c = rw c.in-Fault.is c.tell_fault.ensures

pub returns-in-NoMemory : goal.returns-in-NoMemory
returns-in-NoMemory g c = ends_untold _ (sym (ap unfetched_answer c.in-NoMemory.is))
