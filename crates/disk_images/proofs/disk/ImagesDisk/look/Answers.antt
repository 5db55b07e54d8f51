-- `look`, which counts a call, keeps what the type of the disk promises (`IsKept`), and an error
-- raised the count of faults (src/disk.rt).
use Rattle.std.proofs.Common.{arith}
use Rattle.disk_images.proofs.Parts.{ended_later}
use Rattle.disk_images.proofs.disk.ImagesDisk.look.Goals as goal

pub invariant_of-self : goal.invariant_of-self
invariant_of-self c = record {
  small = c.self.invariant.small;
  ended = ended_later c.self.inside.calls _ c.self.inside.past.items (omega (arith, c.saturating_add-self-inside.ensures, c.self.invariant.calls_fit)) c.self.invariant.ended;
  calls_fit = omega (arith, c.saturating_add-self-inside.ensures);
  faults_fit = omega (arith, c.saturating_add-self-inside-then-fails.ensures);
}

pub invariant_of-self-else-fails : goal.invariant_of-self-else-fails
invariant_of-self-else-fails c = record {
  small = c.self.invariant.small;
  ended = ended_later c.self.inside.calls _ c.self.inside.past.items (omega (arith, c.saturating_add-self-inside.ensures, c.self.invariant.calls_fit)) c.self.invariant.ended;
  calls_fit = omega (arith, c.saturating_add-self-inside.ensures);
  faults_fit = c.self.invariant.faults_fit;
}
