-- The waits and the end of a path in the trace of a legal history of an accepted pair are labels of
-- its tape, in the order of its list of labels, from the first one on; M99 of the main program
-- begins the list anew (src/laws.rt).
use Rattle.trace_list.proofs.Followed.{follows}
use Rattle.trace_list.proofs.laws.the_waits_of_a_trace_are_the_labels.Goals as goal

pub returns : goal.returns
returns c = λ left right pair.
    follows left right (c.each_step_keeps_the_labels.ensures left.order pair.accepted.left_unforked)
    (c.each_step_keeps_the_labels.ensures right.order pair.accepted.right_unforked) pair
