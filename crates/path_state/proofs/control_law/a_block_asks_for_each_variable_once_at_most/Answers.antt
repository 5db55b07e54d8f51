-- A block asks for no more values than it names variables, each mention counted: 32 at most
-- (src/control_law.rt).
use Rattle.path_state.proofs.NeedsWords.{body_most, block_asks}
use Rattle.path_state.proofs.control_law.a_block_asks_for_each_variable_once_at_most.Goals as goal

pub returns-clause-body : goal.returns-clause-body
returns-clause-body c = body_most

pub returns-clause-block : goal.returns-clause-block
returns-clause-block c = block_asks
