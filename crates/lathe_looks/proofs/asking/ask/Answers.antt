-- For the proof of `ask` (src/asking.rt): what is due to the texts that were read is told; or which
-- file can't be read.
use Rattle.lathe_calls.specs.Due.{IsDueTo}
use Rattle.lathe_calls.proofs.Ended.{ends_by, ends_just}
use Rattle.lathe_looks.proofs.NotHad.{answered, unfetched_due}
use Rattle.lathe_looks.proofs.TextsLent.{settings_fit}
use Rattle.lathe_looks.proofs.asking.ask.Goals as goal

pub tell-requires : goal.tell-requires
tell-requires g c = settings_fit c.lent.ensures c.in-Ok.ensures.short.settings

pub returns-in-Ok : goal.returns-in-Ok
returns-in-Ok g c =
    ends_by _ (λ answer due. answered (IsDueTo c.args.question) answer c.in-Ok.ensures.texts due) (rw c.lent.ensures at c.tell.ensures)

pub returns-in-Err : goal.returns-in-Err
returns-in-Err g c = ends_just _ _ (unfetched_due _ _ _ c.in-Err.error c.in-Err.ensures.not_had tt) c.tell_unfetched.ensures
