-- If all runs of a flow come to one list of labels, a block that is done keeps the labels ahead of
-- its path, but for an M99 of the main program with no call open; a wait and an end stand where the
-- labels say (src/control_law.rt).
use Rattle.path_state.proofs.ControlledLabels.{labels_kept}
use Rattle.path_state.proofs.control_law.each_block_keeps_the_labels.Goals as goal

pub returns : goal.returns
returns c = labels_kept
