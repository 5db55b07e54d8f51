-- What the code keeps of the lathe, as clauses see it.
-- For this crate alone: the contracts of the commands in src, none of which is public.
use Rattle.disk_model.specs.Device.{DiskState}
use Rattle.nc_outside.specs.Received.{TurretState}
use Rattle.nc_number.specs.Both.{both_of}
use Rattle.lathe_top.specs.declared.held.Ended.{Ended}
use Rattle.lathe_top.specs.declared.held.Lathe.{Lathe}
use Rattle.lathe_top.specs.Lathe.{LatheState, lathe_with}

-- the states of the disk and the turrets that a command works on
abbrev pub lathe_of : {D T : Type 0} → (D → DiskState) → (T → TurretState) → Lathe D T → LatheState
lathe_of disk turret lathe = lathe_with (disk lathe.disk) (both_of turret lathe.turrets)

-- the states that a command leaves, with the moves that it counts as missed
abbrev pub lathe_left : {D T : Type 0} → (D → DiskState) → (T → TurretState) → Ended D T → LatheState
lathe_left disk turret ended = record (lathe_of disk turret ended.lathe) { missed = ended.missed }
