-- For the proof of `ask_zones` (src/zoning.rt): what is due to the texts that were read is told; or which
-- file can't be read.
use Rattle.lathe_calls.proofs.Ended.{ends_by, ends_just}
use Rattle.lathe_looks.specs.Zoned.{AreZonesFor}
use Rattle.lathe_looks.proofs.NotHad.{answered, unfetched_due}
use Rattle.lathe_looks.proofs.TextsLent.{settings_fit, text_fits}
use Rattle.lathe_looks.proofs.zoning.ask_zones.Goals as goal

pub tell_zones-requires : goal.tell_zones-requires
tell_zones-requires g c = record {
  settings = settings_fit c.lent.ensures c.in-Ok.ensures.short.settings;
  zones = text_fits c.deref.ensures.value c.in-Ok.ensures.zones;
}

pub returns-in-Ok : goal.returns-in-Ok
returns-in-Ok g c =
    ends_by _ (λ answer due. answered (AreZonesFor c.args.limit) answer c.in-Ok.ensures.texts due)
    (rw (c.lent.ensures, c.deref.ensures.value) at c.tell_zones.ensures)

pub returns-in-Err : goal.returns-in-Err
returns-in-Err g c = ends_just _ _ (unfetched_due _ _ _ c.in-Err.error c.in-Err.ensures.not_had tt) c.tell_unfetched.ensures
