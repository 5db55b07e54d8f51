-- Two tapes with one list of labels never wait in vain, on any machine whose blocks go where they
-- may. For the law `no_pair_waits_in_vain` (src/laws.rt).
use Rattle.pair_order.proofs.Meetings.{never_stuck}
use Rattle.pair_order.proofs.laws.no_pair_waits_in_vain.Goals as goal

pub returns : goal.returns
returns c = λ left right pair.
    never_stuck left right
    (record {
      first = c.each_step_keeps_the_labels.ensures left pair.left_unforked;
      second = c.each_step_keeps_the_labels.ensures right pair.right_unforked;
      equal = pair.equal;
    })
