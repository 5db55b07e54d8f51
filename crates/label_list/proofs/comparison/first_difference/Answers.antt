-- The first labels that differ are the fault; if none do as far as the shorter list goes, the lists
-- are equal, lines aside. For the contract of `first_difference` (src/comparison.rt).
use Rattle.std.proofs.Common.{arith}
use Rattle.label_list.proofs.Agreeing.{same_to_end}
use Rattle.label_list.proofs.comparison.first_difference.Goals as goal

pub returns-clause-none : goal.returns-clause-none
returns-clause-none c =
    same_to_end c.args.left.now c.args.right.now c.loop-after.after (omega (arith, c.min-after-end.ensures))
    c.requires.left_ended c.requires.right_ended c.loop-after.invariant
