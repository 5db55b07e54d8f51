-- For the proof of `tell_made` (src/editing.rt), if the edits were not made: why they were not is
-- told.
use Rattle.lathe_top.proofs.editing.tell_made.Goals as goal

pub returns-in-Err : goal.returns-in-Err
returns-in-Err g c = rw c.in-Err.is c.tell_unmade.ensures
