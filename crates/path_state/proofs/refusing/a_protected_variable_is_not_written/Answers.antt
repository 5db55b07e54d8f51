-- A write is alarm 31 exactly if the variable is protected, and a left side whose number is written
-- out is alarm 30 exactly if that names no variable in the code system in force (src/refusing.rt).
use Rattle.path_state.proofs.Protected.{protected, missing}
use Rattle.path_state.proofs.refusing.a_protected_variable_is_not_written.Goals as goal

pub returns : goal.returns
returns c = record { protected = protected; missing = missing }
