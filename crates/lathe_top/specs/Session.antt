-- A session of a run: what one call made of it, from its opening on.
-- What `top` promises is said in it; no other crate takes it.
use Rattle.std.specs.Prelude.{◌≡◌, ℕ, ◌+◌, ◌≤◌, true, false, List, length, take}
use Rattle.nc_number.specs.declared.limits.TheConstants.{MOST_PENDING}
use Rattle.nc_number.specs.Both.{of_path}
use Rattle.nc_number.specs.declared.path.Path.{Path}
use Rattle.disk_model.specs.Device.{Rose}
use Rattle.nc_outside.specs.Faults.{Rose as TurretRose}
use Rattle.nc_outside.specs.declared.reason.Reason.{Reason}
use Rattle.nc_verify.specs.declared.verified.Verified.{Verified}
use Rattle.run_records.specs.Entries.{Entry}
use Rattle.run_records.specs.declared.header.Header.{Header}
use Rattle.two_path.specs.Machine.{MachineView}
use Rattle.two_path.specs.Stuck.{IsFree}
use Rattle.nc_restart.specs.Pair.{texts_of, IsPairOf, tapes_in, machine_behind}
use Rattle.nc_restart.specs.History.{IsHistory}
use Rattle.lathe_looks.specs.Standing.{is_over, reason_of}
use Rattle.lathe_top.specs.Lathe.{LatheState}

-- the header of the journal, the pair that its texts are, the records that were found at the
-- opening, and those at the end
pub record Session : Type 0 where
  -- the header of the journal
  pub header : Header
  -- the accepted pair of its texts
  pub pair : Verified
  -- the records that were found at the opening; none for a new journal
  pub found : List Entry
  -- all records at the end, with those that were found
  pub history : List Entry

-- the machine at the opening of a session
abbrev pub machine_found : Session → MachineView
machine_found s = machine_behind s.pair s.found

-- the machine at the end of a session
abbrev pub machine_of : Session → MachineView
machine_of s = machine_behind s.pair s.history

-- The records at the end are a history of the pair, and begin with those that were found. If the
-- run was over at the opening, no record was made.
pub record GoesOn (pair : Verified) (found history : List Entry) : Type 0 where
  -- the records at the end are a history of the pair
  pub history_is : IsHistory pair history
  -- they begin with those that were found
  pub extends : take (length found) history ≡ found
  -- a run that was over gets no record
  pub rests : is_over (machine_behind pair found) ≡ true → history ≡ found

-- The header's texts are accepted, and the records went on. The paths are not stuck, and none comes
-- to a wait while the other waits at a different code.
pub record IsSession (s : Session) : Type 0 where
  -- the header's texts are accepted, as this pair
  pub accepted : IsPairOf (texts_of s.header) s.pair
  -- the records went on from those that were found
  pub goes_on : GoesOn s.pair s.found s.history
  -- the paths are not stuck, and none comes to another wait than the other
  pub free : IsFree (tapes_in s.pair) (machine_of s)

-- no call of the disk failed, and no call of a turret
pub record NoneFailed (old new : LatheState) : Type 0 where
  -- no call of the disk failed
  pub disk : new.disk.faults ≡ old.disk.faults
  -- no call of the turret of either path failed
  pub turrets : (path : Path) → (of_path new.turrets path).faults ≡ (of_path old.turrets path).faults

-- Why a session of at most so many records ended. If nothing failed: the run is over; or the
-- journal has as many records as it may have; or the session made as many as it was allowed. Else
-- the disk failed; or the disk did not, and the turret of this path did.
pub data EndsBy (limit : ℕ) (s : Session) (old new : LatheState) : Reason → Type 0 where
  -- an alarm has come, or both paths have ended
  over : is_over (machine_of s) ≡ true → NoneFailed old new → EndsBy limit s old new (reason_of (machine_of s))
  -- the journal has as many records as it may have
  full : is_over (machine_of s) ≡ false → length s.history ≡ s.pair.settings.records → NoneFailed old new
      → EndsBy limit s old new Reason.Full
  -- the session made as many records as it was allowed
  stopped : is_over (machine_of s) ≡ false → length s.history ≡ length s.found + limit
      → (length s.history ≡ s.pair.settings.records → ⊥) → NoneFailed old new → EndsBy limit s old new Reason.Stopped
  -- a call of the disk failed
  disk_failed : Rose old.disk.faults new.disk.faults → EndsBy limit s old new Reason.DiskFault
  -- the turret of this path failed, and no call of the disk
  turret_failed : (path : Path) → TurretRose (of_path old.turrets path).faults (of_path new.turrets path).faults
      → new.disk.faults ≡ old.disk.faults → EndsBy limit s old new (Reason.TurretFault path)

-- the disk holds `least` records at least: all that were found, and all of the history but
-- MOST_PENDING at most
pub record AreMost (s : Session) (least : ℕ) : Type 0 where
  -- all records that were found
  pub found : length s.found ≤ least
  -- all of the history but MOST_PENDING records at most
  pub most : length s.history ≤ least + MOST_PENDING
  -- no more than there are
  pub within : least ≤ length s.history

-- how many records of a session the disk holds at least: all, unless it or a turret failed
abbrev pub IsLeast : Reason → Session → ℕ → Type 0
IsLeast Reason.DiskFault s least = AreMost s least
IsLeast (Reason.TurretFault path) s least = AreMost s least
IsLeast other s least = least ≡ length s.history
