-- A disk and a turret of which nothing is told, as the real ones of this crate are.
-- No other crate cites it; the ghost states of the public `FileDisk` (src/file_disk.rt) and
-- `LogTurret` (src/log_turret.rt) are said in it.
use Rattle.std.specs.Prelude.{ℕ, ◌-◌, ◌^◌, None, ⊤}
use Rattle.disk_model.specs.Device.{DiskState, IsCoherent}
use Rattle.nc_outside.specs.Received.{TurretState}

-- Nothing is told but how often it has failed: a crash may leave any bytes, any call may fail, and
-- its clock stands at the last value of a u64.
abbrev pub untold_disk : ℕ → DiskState
untold_disk faults = record {
  reads = None;
  image = λ bytes. ⊤;
  image_since = λ time bytes. ⊤;
  clock = 2 ^ 64 - 1;
  calls = 0;
  reach = 0;
  faults = faults;
  allows = λ calls end. ⊥;
}

-- the facts that are told of such a disk, none, agree with one another
pub untold_agrees : (faults : ℕ) → IsCoherent (untold_disk faults)
untold_agrees faults = record {
  counts_now = λ t c le now. tt;
  only_now = λ c since. tt;
  as_read = λ bytes is. tt;
  enough = λ bytes calls end told allows used asked. absurd allows;
}

-- A turret that never fails, and of which nothing else is told.
abbrev pub untold_turret : TurretState
untold_turret = record { received = None; faults = 0 }
