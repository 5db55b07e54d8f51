-- For the proof of `tell_unfound` (src/refusing.rt): each cause for which no run is found has its
-- status and text.
use Rattle.std.proofs.Common.{sym, ap}
use Rattle.lathe_looks.specs.Shown.{unfound_answer}
use Rattle.lathe_calls.proofs.Ended.{ends_untold}
use Rattle.lathe_looks.proofs.refusing.tell_unfound.Goals as goal

pub returns-in-DiskFault : goal.returns-in-DiskFault
returns-in-DiskFault g c = rw c.in-DiskFault.is c.write_text.ensures

pub returns-in-NoRun : goal.returns-in-NoRun
returns-in-NoRun g c = rw c.in-NoRun.is c.write_text-in-NoRun.ensures

pub returns-in-Cut : goal.returns-in-Cut
returns-in-Cut g c = rw c.in-Cut.is c.tell_bad.ensures

pub returns-in-BadRecord : goal.returns-in-BadRecord
returns-in-BadRecord g c = rw c.in-BadRecord.is c.tell_bad-in-BadRecord.ensures

pub returns-in-NoMemory : goal.returns-in-NoMemory
returns-in-NoMemory g c = ends_untold _ (sym (ap unfound_answer c.in-NoMemory.is))
