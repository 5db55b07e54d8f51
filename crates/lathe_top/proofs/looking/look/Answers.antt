-- For the proof of `look` (src/looking.rt): what the journal holds is shown, and no turret is
-- called.
use Rattle.std.proofs.Common.{refl}
use Rattle.lathe_calls.proofs.Ended.{ends_by}
use Rattle.lathe_top.proofs.looking.look.Goals as goal

pub returns : goal.returns
returns g c = rw c.at_rest.ensures (ends_by _ (λ answer due. (due, (refl, refl))) c.show-status.ensures)
