-- The bodies read so far stand before this offset, and at most two calls of the disk were made for
-- each (loop of `read_bodies`, src/open.rt).
use Rattle.std.proofs.Common.{◌≡◌, ◌*◌, ◌-◌, ◌<◌, [], List, ℕ, length, drop}
use Rattle.disk_model.specs.Moments.{Peeks}
use Rattle.gate_file.specs.Chain.{Opens}
use Rattle.gate_file.specs.Opening.{IsBefore}
use Rattle.gate_file.proofs.open.read_bodies.Given as goal

abbrev pub invariant-loop-next : goal.invariant-loop-next
invariant-loop-next g l = record {
  opens : (bytes : List ℕ) → IsBefore 0 l.len [] (g.D.Disk.state l.fn.disk) bytes → Opens l.bodies bytes (drop l.at bytes);
  within : l.at < l.len;
  none : l.bodies ≡ [] → l.at ≡ 0;
  calm : (g.D.Disk.state l.disk).faults ≡ (g.D.Disk.state l.fn.disk).faults;
  peeks : Peeks (2 * length l.bodies) (g.D.Disk.state l.fn.disk) (g.D.Disk.state l.disk);
}

abbrev pub decreases-loop-next : goal.decreases-loop-next
decreases-loop-next g l = l.len - l.at
