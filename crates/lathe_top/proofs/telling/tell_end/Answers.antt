-- For the proof of `tell_end` (src/telling.rt): the report or the summary is written, and the
-- status is that of the reason.
use Rattle.std.proofs.Common.{refl}
use Rattle.lathe_calls.proofs.Ended.{ends_put}
use Rattle.lathe_top.proofs.telling.tell_end.Goals as goal

pub returns : goal.returns
returns g c =
    rw (c.status_behind.ensures, c.reason_status-status.ensures) (ends_put _ c.put_end.result refl c.put_end.ensures)
