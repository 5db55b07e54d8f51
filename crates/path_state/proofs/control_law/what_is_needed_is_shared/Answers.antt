-- What a block needs is a variable that both paths share (src/control_law.rt).
use Rattle.path_state.proofs.NeedsWords.{needed_shared}
use Rattle.path_state.proofs.control_law.what_is_needed_is_shared.Goals as goal

pub returns : goal.returns
returns c = needed_shared
