-- For the proof of `tell_plan` (src/putting.rt): the zones are written, or what is hit move by move.
use Rattle.lathe_calls.proofs.Ended.{ends_put}
use Rattle.zone_calls.specs.Zoned.{areas}
use Rattle.zone_calls.proofs.putting.tell_plan.Goals as goal

pub returns-in-Areas : goal.returns-in-Areas
returns-in-Areas g c = rw c.status_behind.ensures (ends_put 0 c.put_zones-put.result (areas c.in-Areas.is) c.put_zones-put.ensures)

pub returns-in-Moves : goal.returns-in-Moves
returns-in-Moves g c = rw c.in-Moves.is c.tell_moves.ensures
