-- For the proof of `plan_of_file` (src/zoning.rt): the zones of the text that was read, or its bad
-- line, are those of the file; or the file can't be read.
use Rattle.lathe_calls.proofs.Ended.{ends_just}
use Rattle.lathe_looks.proofs.NotHad.{unfetched_due}
use Rattle.lathe_looks.proofs.ZonesTold.{zones_read, zones_unread}
use Rattle.lathe_looks.proofs.zoning.plan_of_file.Goals as goal

pub plan_of_text-requires : goal.plan_of_text-requires
plan_of_text-requires g c = rw (c.deref.ensures.value) c.in-Ok.ensures.short

pub returns-in-Ok-clause-read : goal.returns-in-Ok-clause-read
returns-in-Ok-clause-read g c =
    zones_read _ _ _ c.in-Ok.text.items c.plan_of_text.result c.in-Ok.ensures.text (rw c.deref.ensures.value at c.plan_of_text.ensures.read)

pub returns-in-Ok-clause-told : goal.returns-in-Ok-clause-told
returns-in-Ok-clause-told g c =
    zones_unread _ _ _ _ _ c.in-Ok.text.items c.plan_of_text.result c.in-Ok.ensures.text (rw c.deref.ensures.value at c.plan_of_text.ensures.told)

pub returns-in-Err-clause-told : goal.returns-in-Err-clause-told
returns-in-Err-clause-told g c = ends_just _ _ (unfetched_due _ _ _ c.in-Err.error c.in-Err.ensures.not_had tt) c.tell_unfetched.ensures
