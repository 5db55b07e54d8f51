-- If a tape is refused for a block, no block at a lower line is refused (src/laws.rt).
use Rattle.open_order.proofs.FirstRefused.{least_refused}
use Rattle.open_order.proofs.laws.the_first_refused_block_has_the_least_line.Goals as goal

pub returns : goal.returns
returns c = least_refused
