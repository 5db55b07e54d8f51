-- A loop ends at the nearest END of its name, and a jump is permitted exactly if each loop that
-- holds its target holds its block. For the law `a_loop_ends_at_its_nearest_end` (src/laws.rt).
use Rattle.block_order.proofs.Searches.{loop_nearest, permitted_held}
use Rattle.block_order.proofs.laws.a_loop_ends_at_its_nearest_end.Goals as goal

pub returns-clause-ends : goal.returns-clause-ends
returns-clause-ends c = loop_nearest

pub returns-clause-jumps : goal.returns-clause-jumps
returns-clause-jumps c = permitted_held
