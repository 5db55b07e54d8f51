-- Of an accepted pair whose list of races is empty, all runs that nobody edited and that both paths
-- finished have the same zones (src/law.rt).
use Rattle.nc_number.specs.declared.path.Path.TheVariants.{One, Two}
use Rattle.path_state.specs.Opening.{opening_path}
use Rattle.two_path.specs.Turns.{tapes_of}
use Rattle.race_zones.proofs.Alike.{one_zoning}
use Rattle.race_zones.proofs.law.a_pair_without_races_has_one_zoning.Goals as goal

pub returns : goal.returns
returns c settings left right pair list =
    one_zoning settings left right (c.histories_are_runs.ensures (tapes_of left right) (opening_path left settings One) (opening_path right settings Two))
    (c.a_pair_without_races_has_one_outcome.ensures settings left right pair list)
