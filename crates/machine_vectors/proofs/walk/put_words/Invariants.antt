-- In both machines a path that waits stands at a wait, and no block of the second has read anything
-- (loop of `put_words`, src/walk.rt).
use Rattle.std.proofs.Common.{◌≡◌}
use Rattle.two_path.specs.Machine.{without_reads}
use Rattle.two_path.specs.Joined.{AreAtTheirWaits}
use Rattle.machine_vectors.proofs.walk.put_words.Given as goal

abbrev pub invariant-loop-word : goal.invariant-loop-word
invariant-loop-word l = record {
  waits : AreAtTheirWaits l.left.order l.right.order l.machine.machine;
  no_reads : without_reads l.second.machine ≡ l.second.machine;
  second_waits : AreAtTheirWaits l.left.order l.right.order l.second.machine;
}
