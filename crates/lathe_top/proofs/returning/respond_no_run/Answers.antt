-- For the proof of `respond_no_run` (src/returning.rt): words that are a command are done; others are told
-- with status 2; if memory ran out for the words, nothing is told.
use Rattle.std.proofs.Common.{refl, rules}
use Rattle.lathe_top.specs.Done.{usage, unread, commanded}
use Rattle.lathe_calls.proofs.Ended.{ends_by, ends_just, ends_untold}
use Rattle.lathe_top.proofs.Opened.{none_called}
use Rattle.lathe_top.proofs.returning.respond_no_run.Goals as goal

pub returns-in-Ok : goal.returns-in-Ok
returns-in-Ok g c = ends_by _ (λ answer due. commanded c.in-Ok.ensures.command due.0 due.1) c.perform_no_run.ensures

pub returns-in-Err-Usage : goal.returns-in-Err-Usage
returns-in-Err-Usage g c =
    rw c.at_rest.ensures
    (ends_just _ _ (usage (c.in-Err-Usage.ensures.usage (search rules)) (none_called _ _ (g.met.D.Disk.coherent c.args.lathe.disk)) refl refl) c.tell_usage.ensures)

pub returns-in-Err-NoMemory : goal.returns-in-Err-NoMemory
returns-in-Err-NoMemory g c =
    rw c.at_rest-in-Err-NoMemory.ensures (ends_untold _ (unread (none_called _ _ (g.met.D.Disk.coherent c.args.lathe.disk)) refl refl))
