-- For the proof of `tell_run` (src/going.rt): the text of how a run ended is told; nothing if the
-- run did not begin.
use Rattle.std.proofs.Common.{sym, ap}
use Rattle.lathe_top.specs.Going.{told_of}
use Rattle.lathe_top.specs.Texts.{text_by}
use Rattle.lathe_calls.proofs.Ended.{ends_just, ends_untold}
use Rattle.lathe_top.proofs.going.tell_run.Goals as goal

pub returns-in-Ok : goal.returns-in-Ok
returns-in-Ok g c =
    ends_just _ _ (ap (told_of (text_by c.args.telling) c.args.verified.now c.args.entries.now.items) (sym c.in-Ok.is)) c.tell_end.ensures

pub returns-in-Err : goal.returns-in-Err
returns-in-Err g c =
    ends_untold _ (ap (told_of (text_by c.args.telling) c.args.verified.now c.args.entries.now.items) (sym c.in-Err.is))
