-- Two pairs of the same accepted texts have one machine and say the same (the law
-- `a_machine_hangs_on_its_texts`, src/laws.rt).
use Rattle.nc_restart.proofs.SamePair.{same_pair}
use Rattle.nc_restart.proofs.laws.a_machine_hangs_on_its_texts.Goals as goal

pub returns : goal.returns
returns c = same_pair
