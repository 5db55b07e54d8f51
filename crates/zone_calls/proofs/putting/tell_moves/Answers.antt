-- For the proof of `tell_moves` (src/putting.rt): what is hit is written, with the number of races; or
-- memory ran out.
use Rattle.std.proofs.Common.{refl}
use Rattle.lathe_calls.proofs.Ended.{ends_put, ends_untold}
use Rattle.zone_calls.specs.Zoned.{moves, unzoned}
use Rattle.zone_calls.proofs.putting.tell_moves.Goals as goal

pub returns-in-Ok : goal.returns-in-Ok
returns-in-Ok g c =
    rw c.status_behind.ensures
    (ends_put 0 c.put_findings-put.result (moves c.in-Ok.list refl c.in-Ok.ensures)
    (rw c.as_slice.ensures at c.put_findings-put.ensures))

pub returns-in-Err : goal.returns-in-Err
returns-in-Err g c = ends_untold _ unzoned
