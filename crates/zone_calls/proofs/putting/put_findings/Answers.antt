-- For the proof of `put_findings` (src/putting.rt): what is hit in the history is written, or memory
-- ran out.
use Rattle.nc_verify.proofs.InPieces.{none_put}
use Rattle.zone_calls.proofs.putting.put_findings.Goals as goal

pub returns-in-Ok : goal.returns-in-Ok
returns-in-Ok g c = rw (c.as_slice.ensures.value, c.in-Ok.ensures, c.len.ensures) at c.put_judged.ensures

pub returns-in-Err : goal.returns-in-Err
returns-in-Err g c = none_put _ _
