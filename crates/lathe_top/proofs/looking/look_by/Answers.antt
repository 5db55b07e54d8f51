-- For the proof of `look_by` (src/looking.rt): what is due to the run is told, and no turret is
-- called.
use Rattle.std.proofs.Common.{refl}
use Rattle.lathe_calls.proofs.Ended.{ends_by}
use Rattle.lathe_top.proofs.looking.look_by.Goals as goal

pub returns : goal.returns
returns g c = rw c.at_rest.ensures (ends_by _ (λ answer due. (due, (refl, refl))) c.show_zones-status.ensures)
