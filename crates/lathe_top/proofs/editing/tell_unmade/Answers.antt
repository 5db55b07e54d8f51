-- For the proof of `tell_unmade` (src/editing.rt): a fault of the disk is told with its status, and
-- out of memory by nothing.
use Rattle.std.proofs.Common.{refl}
use Rattle.lathe_calls.proofs.Ended.{ends_untold}
use Rattle.lathe_top.proofs.editing.tell_unmade.Goals as goal

pub returns-in-Fault : goal.returns-in-Fault
returns-in-Fault g c = rw c.in-Fault.is c.write_text.ensures

pub returns-in-NoMemory : goal.returns-in-NoMemory
returns-in-NoMemory g c = rw c.in-NoMemory.is (ends_untold _ refl)
