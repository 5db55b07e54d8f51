-- Why the run of a table has ended that is no longer held. Of a held one it is in Ending.
use Rattle.std.specs.Prelude.{◌≡◌, ◌≢◌, false, length, Option, Some, None, IsTrue}
use Rattle.disk_model.specs.Device.{DiskState, Rose}
use Rattle.nc_outside.specs.declared.halt.Halt.{Halt}
use Rattle.nc_outside.specs.declared.halt.Halt.TheVariants as halt
use Rattle.nc_outside.specs.declared.reason.Reason.{Reason}
use Rattle.nc_outside.specs.declared.reason.Reason.TheVariants as reason
use Rattle.two_path.specs.Ending.{end_of}
use Rattle.run_table.specs.Kept.{TableView}

-- nothing has stopped the table, or an alarm has
abbrev pub IsNoneOrAlarm : Option Halt → Type 0
IsNoneOrAlarm None = Unit {0}
IsNoneOrAlarm (Some (halt.Alarm alarm)) = Unit {0}
IsNoneOrAlarm (Some halt.Disk) = ⊥
IsNoneOrAlarm (Some (halt.Turret path)) = ⊥
IsNoneOrAlarm (Some halt.Full) = ⊥
IsNoneOrAlarm (Some halt.Budget) = ⊥

-- a table that may be run: no record pends, and nothing but an alarm has stopped it
pub record MayRun {D : Type 0} (t : TableView D) : Type 0 where
  -- all records are on the disk
  pub all : t.recording.flushed ≡ length t.recording.history
  -- nothing has stopped it, or an alarm has
  pub halt : IsNoneOrAlarm t.halt

-- a run is at an end, all its records are on the disk, which has not failed, and its machine ended
-- it so, or not (None)
pub record IsEnd {D : Type 0} (t : TableView D) (machine_end : Option Reason) : Type 0 where
  -- the journal may still be written
  pub live : IsTrue t.recording.log.file.live
  -- the table may be run: no record pends, and only an alarm may have stopped it
  pub may : MayRun t
  -- the machine ends so, or gives no end (None)
  pub machine : end_of t.machine ≡ machine_end

-- Why a run ended: the disk failed, or else an alarm came, or else both paths ended, or else there
-- are as many records as there may be, or else no budget is left. No turret ends it.
abbrev pub EndsBy : {D : Type 0} → (D → DiskState) → TableView D → TableView D → Reason → Type 0
EndsBy state old new (reason.Alarm alarm) = IsEnd new (Some (reason.Alarm alarm))
EndsBy state old new reason.Done = IsEnd new (Some reason.Done)
EndsBy state old new reason.Full = IsEnd new None × (length new.recording.history ≡ new.verified.settings.records)
EndsBy state old new reason.Stopped =
    IsEnd new None × (length new.recording.history ≢ new.verified.settings.records) × (new.budget ≡ 0)
EndsBy state old new reason.DiskFault =
    (new.recording.log.file.live ≡ false)
    × Rose (state old.recording.log.file.disk).faults (state new.recording.log.file.disk).faults
EndsBy state old new (reason.TurretFault path) = ⊥
