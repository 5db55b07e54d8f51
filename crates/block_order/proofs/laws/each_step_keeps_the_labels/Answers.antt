-- In an unforked tape each step keeps the labels ahead. For the law `each_step_keeps_the_labels`
-- (src/laws.rt).
use Rattle.block_order.proofs.OnePath.{keeps_labels}
use Rattle.block_order.proofs.laws.each_step_keeps_the_labels.Goals as goal

pub returns : goal.returns
returns c = keeps_labels
