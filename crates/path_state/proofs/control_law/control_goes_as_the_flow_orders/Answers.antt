-- Whatever a path holds, its block leads where the order of blocks allows, and what is fixed for
-- the path stays (src/control_law.rt).
use Rattle.path_state.proofs.ControlledFlow.{steady}
use Rattle.path_state.proofs.control_law.control_goes_as_the_flow_orders.Goals as goal

pub returns-clause-control : goal.returns-clause-control
returns-clause-control c flow path reads = (steady flow path reads).goes

pub returns-clause-fixed : goal.returns-clause-fixed
returns-clause-fixed c flow path reads = (steady flow path reads).keeps
