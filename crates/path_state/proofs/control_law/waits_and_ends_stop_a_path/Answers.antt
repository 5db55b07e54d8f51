-- A path on a wait is at it, no block follows an end, and past the last block of a program there is
-- an alarm (src/control_law.rt).
use Rattle.path_state.proofs.ControlledFlow.{waits, at_end, runs_off}
use Rattle.path_state.proofs.control_law.waits_and_ends_stop_a_path.Goals as goal

pub returns-clause-waits : goal.returns-clause-waits
returns-clause-waits c = waits

pub returns-clause-ends : goal.returns-clause-ends
returns-clause-ends c = at_end

pub returns-clause-past : goal.returns-clause-past
returns-clause-past c = runs_off
