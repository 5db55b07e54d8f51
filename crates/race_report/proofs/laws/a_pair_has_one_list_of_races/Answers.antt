-- Any two lists of the races of a pair are one (src/laws.rt).
use Rattle.race_report.proofs.OneList.{one_list}
use Rattle.race_report.proofs.laws.a_pair_has_one_list_of_races.Goals as goal

pub returns : goal.returns
returns c = one_list
