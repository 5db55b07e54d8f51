-- No order of events of a pair whose lists of labels are equal leads to paths that can't go on
-- (src/laws.rt).
use Rattle.two_path.specs.Turns.{tapes_of}
use Rattle.two_path.proofs.Paired.{run_free}
use Rattle.two_path.proofs.laws.no_pair_is_stuck.Goals as goal

pub returns : goal.returns
returns c = λ left right pair first second at events.
    run_free left.order right.order (tapes_of left right)
    (record {
      first = c.each_step_keeps_the_labels.ensures left.order pair.accepted.left_unforked;
      second = c.each_step_keeps_the_labels.ensures right.order pair.accepted.right_unforked;
      first_led = pair.left_controlled;
      second_led = pair.right_controlled;
      first_raises = c.no_block_says_that_waits_differ.ensures left;
      second_raises = c.no_block_says_that_waits_differ.ensures right;
      equal = pair.accepted.equal;
    })
    first second at.one at.two events
