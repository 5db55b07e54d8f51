-- What a run works on: the disk of its journal, the turrets of both paths, and the moves missed.
-- What `top` promises is said in it; no other crate takes it.
use Rattle.std.specs.Prelude.{◌≡◌, ℕ}
use Rattle.disk_model.specs.Device.{DiskState}
use Rattle.nc_number.specs.declared.both.Both.{Both}
use Rattle.nc_outside.specs.Received.{TurretState}
use Rattle.turret_run.specs.Runs.{none_missed}
use Rattle.lathe_top.specs.declared.outcome.Outcome.{Outcome}

-- What a run works on, at one moment: the disk of its journal, and the turrets of both paths; and
-- how many moves of the call's records that are on the disk each turret has missed.
pub record LatheState : Type 1 where
  -- the disk of the journal
  pub disk : DiskState
  -- the turrets of path 1 and path 2
  pub turrets : Both TurretState
  -- how many of these moves each turret has missed
  pub missed : Both ℕ

-- this disk and these turrets before a call, which has missed no move
abbrev pub lathe_with : DiskState → Both TurretState → LatheState
lathe_with disk turrets = record { disk = disk; turrets = turrets; missed = none_missed }

-- this disk and the turrets of path 1 and path 2 before a call, which has missed no move
abbrev pub lathe_at : DiskState → TurretState → TurretState → LatheState
lathe_at disk left right = lathe_with disk (record { one = left; two = right })

-- the states that a call leaves, with the moves that it counts as missed
abbrev pub lathe_after : {D E T : Type 0} → (D → DiskState) → (T → TurretState) → Outcome D E T → LatheState
lathe_after disk turret outcome = record {
  disk = disk outcome.disk;
  turrets = record { one = turret outcome.left; two = turret outcome.right };
  missed = outcome.missed;
}

-- no turret was called, and none missed a move
abbrev pub AreAtRest : LatheState → LatheState → Type 0
AreAtRest old new = (new.turrets ≡ old.turrets) × (new.missed ≡ none_missed)
