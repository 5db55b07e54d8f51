-- An accepted pair whose list of races is empty has no race, and so one outcome, and all its runs go
-- alike: for the laws of src/laws.rt.
use Rattle.std.proofs.Common.{[], refl}
use Rattle.nc_number.specs.declared.path.Path.TheVariants.{One, Two}
use Rattle.cell_settings.specs.declared.settings.Settings.{Settings}
use Rattle.tape_flow.specs.declared.flow.Flow.{Flow}
use Rattle.label_list.specs.Accepted.{IsAcceptedPair}
use Rattle.path_state.specs.Opening.{opening_path}
use Rattle.race_order.specs.Races.{HasNoRace}
use Rattle.race_order.proofs.Flows.{race_free_agree, race_free_go_alike}
use Rattle.race_report.specs.RaceLists.{shared_by, IsRaceList}
use Rattle.race_report.specs.Outcomes.{HasOneOutcome, AllGoAlike}

-- a pair with an empty list has no race
none : (settings : Settings) (left right : Flow) → IsRaceList (shared_by settings) left right [] → HasNoRace (shared_by settings) left right
none settings left right list = record { first = λ n v is. list.one n v is; second = λ n v is. list.two n v is }

-- of an accepted pair with an empty list any two orders of turns after which both paths have
-- finished come to the same
pub one_outcome : (settings : Settings) (left right : Flow) → IsAcceptedPair left.order right.order
    → IsRaceList (shared_by settings) left right [] → HasOneOutcome settings left right
one_outcome settings left right pair list turns others done also =
    race_free_agree left right pair.left_unforked pair.right_unforked (shared_by settings) (none settings left right list)
    (opening_path left settings One) (opening_path right settings Two)
    (record { place = refl; shares = λ v. refl }) (record { place = refl; shares = λ v. refl }) turns others done also

-- of an accepted pair with an empty list the runs of any two orders of turns go alike
pub all_go_alike : (settings : Settings) (left right : Flow) → IsAcceptedPair left.order right.order
    → IsRaceList (shared_by settings) left right [] → AllGoAlike settings left right
all_go_alike settings left right pair list turns others =
    race_free_go_alike left right pair.left_unforked pair.right_unforked (shared_by settings) (none settings left right list)
    (opening_path left settings One) (opening_path right settings Two)
    (record { place = refl; shares = λ v. refl }) (record { place = refl; shares = λ v. refl }) turns others
