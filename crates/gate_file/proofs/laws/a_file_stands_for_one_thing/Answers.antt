-- A file of gates stands for one thing: no run, one list of bodies, or an entry cut short at one
-- offset (the law `a_file_stands_for_one_thing`, src/laws.rt).
use Rattle.gate_file.proofs.Unique.{one_list, none_spelled, one_cut, spelled_uncut, none_uncut}
use Rattle.gate_file.proofs.laws.a_file_stands_for_one_thing.Goals as goal

pub returns-clause-bodies : goal.returns-clause-bodies
returns-clause-bodies c = one_list

pub returns-clause-no_run : goal.returns-clause-no_run
returns-clause-no_run c = none_spelled

pub returns-clause-cut : goal.returns-clause-cut
returns-clause-cut c = one_cut

pub returns-clause-never_cut : goal.returns-clause-never_cut
returns-clause-never_cut c = spelled_uncut

pub returns-clause-no_run_uncut : goal.returns-clause-no_run_uncut
returns-clause-no_run_uncut c = none_uncut
