-- A program is loud exactly if it reaches a wait or an end by its calls. For the law
-- `being_loud_is_reaching_a_wait_or_an_end` (src/laws.rt).
use Rattle.block_order.proofs.LoudReaches.{loud_exactly}
use Rattle.block_order.proofs.laws.being_loud_is_reaching_a_wait_or_an_end.Goals as goal

pub returns : goal.returns
returns c = loud_exactly
