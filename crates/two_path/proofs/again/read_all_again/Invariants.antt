-- For `read_all_again`: what is read so far, with what the stamps that are left stand for, is what
-- all stamps stand for (loop of src/again.rt).
use Rattle.std.proofs.Common.{drop}
use Rattle.two_path.specs.Turns.{blocks_of}
use Rattle.two_path.proofs.Replayed.{IsReplaying}
use Rattle.two_path.proofs.again.read_all_again.Given as goal

abbrev pub invariant-loop-stamp : goal.invariant-loop-stamp
invariant-loop-stamp l =
    IsReplaying (blocks_of l.flow) l.initial.me l.me l.joint.shared.writes l.joint.count l.lowest l.stamps (drop l.stamp-index l.stamps)
