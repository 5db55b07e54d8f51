-- Parts repeat with the waits of the list; without a wait all is part 0. For the law
-- `parts_repeat_with_the_waits` (src/laws.rt).
use Rattle.part_order.proofs.Folded.{parts_repeat}
use Rattle.part_order.proofs.laws.parts_repeat_with_the_waits.Goals as goal

pub returns : goal.returns
returns c = parts_repeat
