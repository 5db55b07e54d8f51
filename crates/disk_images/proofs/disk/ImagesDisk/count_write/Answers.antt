-- `count_write`, which counts a write, keeps what the type of the disk promises (`IsKept`,
-- src/disk.rt).
use Rattle.std.proofs.Common.{arith}
use Rattle.disk_images.proofs.Parts.{ended_later}
use Rattle.disk_images.proofs.disk.ImagesDisk.count_write.Goals as goal

pub invariant_of-self : goal.invariant_of-self
invariant_of-self c = record {
  small = c.self.invariant.small;
  ended = ended_later c.self.inside.calls _ c.self.inside.past.items (omega (arith, c.saturating_add-self-inside.ensures, c.self.invariant.calls_fit)) c.self.invariant.ended;
  calls_fit = omega (arith, c.saturating_add-self-inside.ensures);
  faults_fit = c.self.invariant.faults_fit;
}
