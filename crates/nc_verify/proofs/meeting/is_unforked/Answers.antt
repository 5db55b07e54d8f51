-- An order of blocks is sound by its type, so all runs of it come to one list of labels
-- (src/meeting.rt).
use Rattle.nc_verify.proofs.meeting.is_unforked.Goals as goal

pub returns : goal.returns
returns c = c.a_tape_without_faults_is_unforked.ensures c.args.order.now c.as_slice-programs.ensures.sound.waits
