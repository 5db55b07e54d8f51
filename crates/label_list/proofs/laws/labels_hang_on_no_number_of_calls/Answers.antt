-- The labels of a program do not depend on how many calls may follow in it, n or more, if no chain
-- of n calls of loud programs (which have a wait or an end, or call one that has) begins in it. For
-- the law `labels_hang_on_no_number_of_calls` (src/laws.rt).
use Rattle.label_list.proofs.Levels.{enough}
use Rattle.label_list.proofs.laws.labels_hang_on_no_number_of_calls.Goals as goal

pub returns : goal.returns
returns c = enough
