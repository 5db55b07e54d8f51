-- For the proof of `tell_unbranched` (src/branching.rt): each cause for which no branch is made has
-- its text and its status.
use Rattle.std.proofs.Common.{refl}
use Rattle.lathe_calls.proofs.Ended.{ends_untold}
use Rattle.lathe_top.proofs.branching.tell_unbranched.Goals as goal

pub returns-in-NoMeeting : goal.returns-in-NoMeeting
returns-in-NoMeeting g c = rw c.in-NoMeeting.is c.tell_no_meeting.ensures

pub returns-in-RunThere : goal.returns-in-RunThere
returns-in-RunThere g c = rw c.in-RunThere.is c.write_text.ensures

pub returns-in-NewDisk : goal.returns-in-NewDisk
returns-in-NewDisk g c = rw c.in-NewDisk.is c.write_text-in-NewDisk.ensures

pub returns-in-NoMemory : goal.returns-in-NoMemory
returns-in-NoMemory g c = rw c.in-NoMemory.is (ends_untold _ refl)
