-- All runs of an order come to one list of labels: a caller of the function has that of this order.
-- For the contract of `runs_have_one_list` (src/unforked.rt).
use Rattle.loud_calls.proofs.unforked.runs_have_one_list.Goals as goal

pub returns : goal.returns
returns c = c.a_tape_without_faults_is_unforked.ensures c.args.order.now c.as_slice-programs.ensures.sound.waits
