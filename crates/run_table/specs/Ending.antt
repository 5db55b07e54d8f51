-- Why the run of a held table has ended, with its records on the disk, and what asking for that
-- does. For a table that is no longer held it is in Running.
use Rattle.std.specs.Prelude.{◌≡◌, ◌≢◌, ◌<◌, false, length, Option, Some, None, IsTrue}
use Rattle.nc_outside.specs.declared.halt.Halt.TheVariants as halt
use Rattle.nc_outside.specs.declared.reason.Reason.{Reason}
use Rattle.nc_outside.specs.declared.reason.Reason.TheVariants as reason
use Rattle.nc_outside.specs.Reasons.{end_or_bound}
use Rattle.two_path.specs.Ending.{end_of}
use Rattle.run_table.specs.Kept.{TableView}
use Rattle.run_table.specs.Stepping.{bound_of}
use Rattle.run_table.specs.Running.{IsNoneOrAlarm}
use Rattle.run_table.specs.Holding.{HeldView, without_turret}

-- the end of a run whose disk has not failed, of which records may pend: the machine ends it, or
-- else a full journal or a spent budget does
abbrev pub end_ahead : {D : Type 0} → TableView D → Option Reason
end_ahead t = end_or_bound (end_of t.machine) (bound_of t)

-- What asking for the end of a run does. Nothing is done if the disk has failed, or the run has not
-- ended. Else the records that pend are written; if the disk fails in that, this is the end.
pub data Asks {D : Type 0} (old new : TableView D) (result : Option Reason) : Type 0 where
  -- the disk stopped the table before, and it stays as it is
  kept : old.halt ≡ Some halt.Disk → result ≡ Some reason.DiskFault → new ≡ old → Asks old new result
  -- no cause stands, and nothing is done
  idle : old.halt ≢ Some halt.Disk → end_ahead old ≡ None → result ≡ None → new ≡ old → Asks old new result
  -- a cause stands, and all records are on the disk
  written : old.halt ≢ Some halt.Disk → (end : Reason) → end_ahead old ≡ Some end → result ≡ Some end
      → new ≡ record old { recording = new.recording } → new.recording.history ≡ old.recording.history
      → IsTrue new.recording.log.file.live → new.recording.flushed ≡ length new.recording.history
      → (old.recording.flushed ≡ length old.recording.history → new.recording.log.file ≡ old.recording.log.file)
      → Asks old new result
  -- a cause stands, but the disk failed in the flush
  failed : old.halt ≢ Some halt.Disk → old.recording.flushed < length old.recording.history → result ≡ Some reason.DiskFault
      → new ≡ record old { recording = new.recording; halt = Some halt.Disk } → new.recording.history ≡ old.recording.history
      → new.recording.log.file.live ≡ false → new.recording.flushed ≡ old.recording.flushed → Asks old new result

-- the run of a held table is at an end, all its records are on the disk, which has not failed, and
-- its machine ended it so, or not (None)
pub record IsAtEnd {D : Type 0} (h : HeldView D) (machine_end : Option Reason) : Type 0 where
  -- the journal may still be written
  pub live : IsTrue h.file.live
  -- all records are on the disk
  pub all : h.flushed ≡ length h.history
  -- but for a turret's fault, only an alarm may have stopped it
  pub halt : IsNoneOrAlarm (without_turret h.halt)
  -- the machine ends so, or gives no end (None)
  pub machine : end_of h.machine ≡ machine_end

-- Why the run of a held table has ended: the first of the causes that stand. No turret ends it.
abbrev pub HasEnded : {D : Type 0} → HeldView D → Reason → Type 0
HasEnded h reason.DiskFault = (h.halt ≡ Some halt.Disk) × (h.file.live ≡ false)
HasEnded h (reason.TurretFault path) = ⊥
HasEnded h (reason.Alarm alarm) = IsAtEnd h (Some (reason.Alarm alarm))
HasEnded h reason.Done = IsAtEnd h (Some reason.Done)
HasEnded h reason.Full = IsAtEnd h None × (length h.history ≡ h.verified.settings.records)
HasEnded h reason.Stopped = IsAtEnd h None × (length h.history ≢ h.verified.settings.records) × (h.budget ≡ 0)

-- none of the causes stands for which the run of a held table ends
pub record HasNotEnded {D : Type 0} (h : HeldView D) : Type 0 where
  -- the journal may be written
  pub live : IsTrue h.file.live
  -- no fault of the disk is kept
  pub halt : h.halt ≢ Some halt.Disk
  -- the machine gives no end
  pub machine : end_of h.machine ≡ None
  -- the journal is not full
  pub room : length h.history ≢ h.verified.settings.records
  -- the budget is not spent
  pub leave : h.budget ≢ 0

-- What stays as it was when the end of a run is asked for: all but what is on the disk. The disk is
-- used only if the run has ended and records pend, and a reason to stop is set only if it fails.
pub record KeepsRest {D : Type 0} (old new : HeldView D) (result : Option Reason) : Type 0 where
  -- all but the flushed count, the file and the reason stays
  pub rest : new ≡ record old { flushed = new.flushed; file = new.file; halt = new.halt }
  -- the reason stays unless the disk failed
  pub halt : result ≢ Some reason.DiskFault → new.halt ≡ old.halt
  -- if the disk failed, no more records count as flushed
  pub flushed : result ≡ Some reason.DiskFault → new.flushed ≡ old.flushed
  -- if the run has not ended, nothing is done
  pub idle : result ≡ None → new ≡ old
  -- if all is flushed already, nothing changes
  pub settled : old.flushed ≡ length old.history → new ≡ old
