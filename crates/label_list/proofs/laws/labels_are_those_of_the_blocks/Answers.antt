-- The labels of a path with their lines are, lines aside, the labels ahead of its start. For the
-- law `labels_are_those_of_the_blocks` (src/laws.rt).
use Rattle.label_list.proofs.Bare.{bare_path}
use Rattle.label_list.proofs.laws.labels_are_those_of_the_blocks.Goals as goal

pub returns : goal.returns
returns c = bare_path
