-- What a block writes beside its path is a variable that both paths share (src/control_law.rt).
use Rattle.path_state.proofs.ControlledWrites.{shared_written}
use Rattle.path_state.proofs.control_law.what_is_written_is_shared.Goals as goal

pub returns : goal.returns
returns c = shared_written
