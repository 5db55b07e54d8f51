-- What is found is so, and what is so is found (`a_fault_is_its_condition`, src/law.rt).
use Rattle.thread_cycle.proofs.FaultCauses.{found, told, pass_found, pass_told}
use Rattle.thread_cycle.proofs.law.a_fault_is_its_condition.Goals as goal

pub returns-clause-found : goal.returns-clause-found
returns-clause-found c = found

pub returns-clause-told : goal.returns-clause-told
returns-clause-told c = told

pub returns-clause-found_of_passes : goal.returns-clause-found_of_passes
returns-clause-found_of_passes c = pass_found

pub returns-clause-told_of_passes : goal.returns-clause-told_of_passes
returns-clause-told_of_passes c = pass_told
