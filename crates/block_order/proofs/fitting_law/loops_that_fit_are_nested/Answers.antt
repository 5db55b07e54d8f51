-- Loops whose heads and ends fit are nested. For the law `loops_that_fit_are_nested`
-- (src/fitting_law.rt).
use Rattle.block_order.proofs.Nested.{loops-nested}
use Rattle.block_order.proofs.fitting_law.loops_that_fit_are_nested.Goals as goal

pub returns : goal.returns
returns c = loops-nested
