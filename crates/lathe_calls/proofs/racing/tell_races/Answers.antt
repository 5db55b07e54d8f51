-- For the proof of `tell_races` (src/racing.rt): the list of all races of the pair is written, with
-- status 0; or memory ran out.
use Rattle.lathe_calls.specs.Races.{listed, unlisted}
use Rattle.lathe_calls.proofs.Ended.{ends_put, ends_untold}
use Rattle.lathe_calls.proofs.racing.tell_races.Goals as goal

pub returns-in-Ok : goal.returns-in-Ok
returns-in-Ok g c = rw (c.status_behind.ensures) (ends_put 0 c.write_races.result (listed c.in-Ok.list c.in-Ok.ensures) c.write_races.ensures)

pub returns-in-Err : goal.returns-in-Err
returns-in-Err g c = ends_untold _ unlisted
