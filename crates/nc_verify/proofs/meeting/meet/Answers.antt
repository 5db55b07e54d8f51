-- `meet`: if the lists of labels differ, the refusal of the pair is their first difference
-- (src/meeting.rt).
use Rattle.nc_verify.proofs.Refused.{labels_differ}
use Rattle.nc_verify.proofs.meeting.meet.Goals as goal

pub returns-in-Err-compare-clause-refused : goal.returns-in-Err-compare-clause-refused
returns-in-Err-compare-clause-refused c =
    labels_differ c.args.left.now c.args.right.now c.in-Ok.list c.in-Ok-labels_of.list c.in-Err-compare.fault
    c.mismatch.result c.in-Ok.ensures.list c.in-Ok-labels_of.ensures.list c.in-Ok.ensures.few c.in-Ok-labels_of.ensures.few
    c.in-Err-compare.ensures.differ c.mismatch.ensures
