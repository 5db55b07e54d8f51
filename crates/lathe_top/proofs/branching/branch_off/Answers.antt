-- For the proof of `branch_off` (src/branching.rt): what is due to a branch is told, and no turret
-- is called.
use Rattle.std.proofs.Common.{refl}
use Rattle.lathe_calls.proofs.Ended.{ends_by}
use Rattle.lathe_top.proofs.branching.branch_off.Goals as goal

pub returns : goal.returns
returns g c = rw c.at_rest-ended.ensures (ends_by _ (λ answer due. (due, (refl, refl))) c.branch_run-status.ensures)
