-- What a run with turrets comes to: its end, its records, and what each turret got and missed. The
-- contracts of src/run.rt and src/placing.rt and Rests cite it.
use Rattle.std.specs.Prelude.{◌≡◌, ◌≢◌, ◌⊎◌, ℕ, List, ◌++◌, length, Some, Result, Ok, Err}
use Rattle.disk_model.specs.Device.{DiskState}
use Rattle.nc_number.specs.declared.both.Both.{Both}
use Rattle.nc_number.specs.declared.fault.NoMemory.{NoMemory}
use Rattle.nc_number.specs.declared.path.Path.{Path}
use Rattle.nc_number.specs.declared.path.Path.TheVariants.{One, Two}
use Rattle.nc_number.specs.declared.point.Point.{Point}
use Rattle.nc_number.specs.Both.{of_path}
use Rattle.nc_number.specs.Path.{other_of}
use Rattle.nc_outside.specs.declared.halt.Halt.TheVariants.{Disk}
use Rattle.nc_outside.specs.declared.got.Got.{Got}
use Rattle.nc_outside.specs.Received.{TurretState}
use Rattle.nc_outside.specs.declared.reason.Reason.{Reason}
use Rattle.nc_outside.specs.declared.reason.Reason.TheVariants as reason
use Rattle.two_path.specs.Machine.{position_of}
use Rattle.run_table.specs.Kept.{TableView}
use Rattle.run_table.specs.Draining.{rest_told, StandsAsTold}
use Rattle.run_table.specs.Made.{told_made}
use Rattle.run_table.specs.Running.{EndsBy}
use Rattle.run_table.specs.Since.{Since}
use Rattle.turret_run.specs.Served.{place_told, turret_told, IsPlaced, FailsPlace, GetsAll, GetsPart, GetsSome, FailsAmong, Misses}

-- What is due to the turret of a path: its place at the beginning and a rest there; then, record by
-- record, the moves of the path's records since then that are on the disk at the end, and before each
-- of their waits a rest; a rest more if it was told to rest for a wait that is not recorded yet; and a
-- rest at the end.
abbrev pub due_to_turret : {D : Type 0} → Path → TableView D → TableView D → List Got
due_to_turret path old new = turret_told (position_of path old.machine)
    (told_made new.verified path (length old.recording.history) new.recording.flushed new.recording.history
    ++ rest_told (of_path new.resting path))

-- What would be due to the turret of a path if all records were on the disk.
abbrev pub due_by_all : {D : Type 0} → Path → TableView D → TableView D → List Got
due_by_all path old new = turret_told (position_of path old.machine)
    (told_made new.verified path (length old.recording.history) (length new.recording.history) new.recording.history
    ++ rest_told (of_path new.resting path))

-- What a turret got at an end of the run that is no fault of a turret: all that is due. If the disk
-- failed, it got a prefix of that, and may have failed too.
abbrev pub GetsAt : Reason → List Got → TurretState → TurretState → Type 0
GetsAt reason.DiskFault what old new = GetsSome what old new
GetsAt end what old new = GetsAll what old new

-- What the other turret got if that of the named path failed. Beside path 2 that of path 1 got all
-- that is due, else path 1 were named. Beside path 1 that of path 2 got all, or it failed too.
abbrev pub GetsBeside : Path → List Got → TurretState → TurretState → Type 0
GetsBeside One what old new = GetsAll what old new ⊎ FailsAmong what old new
GetsBeside Two what old new = GetsAll what old new

-- What the other turret got if that of the named path failed at its place, of which path 1's comes
-- first. Beside path 1 that of path 2 was not called; beside path 2 that of path 1 stood still at
-- its place.
abbrev pub StandsBeside : Path → Point → TurretState → TurretState → Type 0
StandsBeside One place old new = new ≡ old
StandsBeside Two place old new = IsPlaced place old new

-- no turret missed a move
abbrev pub none_missed : Both ℕ
none_missed = record { one = 0; two = 0 }

-- The table is as it was, but for the room for records and the leave to make them.
pub record Stays {D : Type 0} (old new : TableView D) : Type 0 where
  -- the accepted pair of the run
  pub verified : new.verified ≡ old.verified
  -- the machine after the records
  pub machine : new.machine ≡ old.machine
  -- the records
  pub history : new.recording.history ≡ old.recording.history
  -- how many of the records are on the disk
  pub flushed : new.recording.flushed ≡ old.recording.flushed
  -- the file of the journal
  pub file : new.recording.log.file ≡ old.recording.log.file
  -- the version of the journal's form
  pub version : new.recording.log.version ≡ old.recording.log.version
  -- why the table has halted, if it has
  pub halt : new.halt ≡ old.halt

-- A run of the table `old` for at most `limit` records, which left `new`, with the turrets before
-- and after it; `missed` is how many moves of records that are on the disk each turret did not get.
module _ {D : Type 0} (state : D → DiskState) (limit : ℕ) (old new : TableView D) (before after : Both TurretState) (missed : Both ℕ) where
  -- The run ended for another reason than a turret: its machine, a full journal, a spent budget, or
  -- a fault of the disk.
  pub record HasEnded (end : Reason) : Type 0 where
    -- the table has come of the old one by at most `limit` records
    pub since : Since state (record old { budget = limit }) new
    -- the run ended for this reason
    pub ends : EndsBy state old new end
    -- what each turret got of what is due to it
    pub turrets : (path : Path) → GetsAt end (due_to_turret path old new) (of_path before path) (of_path after path)
    -- unless the disk failed, a turret that was told to rest for a wait that is not recorded was told so
    -- for the wait before which its path stands
    pub rests : new.halt ≢ Some Disk → (path : Path) → StandsAsTold new.verified new.machine path (of_path new.resting path)
    -- how many moves of what is due each turret missed
    pub misses : (path : Path) → Misses (due_to_turret path old new) (of_path missed path) (of_path before path) (of_path after path)

  -- A turret failed after both turrets had got their places, and no call of the disk failed.
  pub record HasFailed (path : Path) : Type 0 where
    -- the table has come of the old one by at most `limit` records
    pub since : Since state (record old { budget = limit }) new
    -- the table keeps no fault of the disk
    pub disk : new.halt ≢ Some Disk
    -- no call of the disk failed
    pub calm : (state new.recording.log.file.disk).faults ≡ (state old.recording.log.file.disk).faults
    -- the records that are not on the disk tell nothing: with them no more is due to either turret
    pub whole : (p : Path) → due_by_all p old new ≡ due_to_turret p old new
    -- the turret of this path got its place and a prefix of what is due to it, and failed
    pub failed : FailsAmong (due_to_turret path old new) (of_path before path) (of_path after path)
    -- what the other turret got
    pub other : GetsBeside path (due_to_turret (other_of path) old new) (of_path before (other_of path)) (of_path after (other_of path))
    -- a turret that was told to rest for a wait that is not recorded was told so for the wait before
    -- which its path stands
    pub rests : (p : Path) → StandsAsTold new.verified new.machine p (of_path new.resting p)
    -- how many moves of what is due each turret missed
    pub misses : (p : Path) → Misses (due_to_turret p old new) (of_path missed p) (of_path before p) (of_path after p)

  -- A turret failed at its place, or in coming to stand still there: the table is as it was, no
  -- turret got a move, and the other one got no more than its place.
  pub record IsNotPlaced (path : Path) : Type 0 where
    -- the table has come of the old one
    pub since : Since state (record old { budget = limit }) new
    -- the table is as it was, so no record was made
    pub same : Stays old new
    -- the table keeps no fault of the disk
    pub disk : new.halt ≢ Some Disk
    -- the turret of this path failed at its place
    pub failed : FailsPlace (position_of path old.machine) (of_path before path) (of_path after path)
    -- what the other turret got
    pub other : StandsBeside path (position_of (other_of path) old.machine) (of_path before (other_of path)) (of_path after (other_of path))
    -- no move was missed
    pub none : missed ≡ none_missed

  -- Memory ran out before the first step, or a thread was refused: no record was made, and no
  -- turret got more than its place.
  pub record HasNotBegun : Type 0 where
    -- the table is as it was
    pub same : Stays old new
    -- each turret got its place at most
    pub turrets : (path : Path) → GetsPart (place_told (position_of path old.machine)) (of_path before path) (of_path after path)
    -- no move was missed
    pub none : missed ≡ none_missed

  -- What a run with turrets that ended so comes to.
  abbrev pub EndsSo : Reason → Type 0
  EndsSo (reason.TurretFault path) = HasFailed path ⊎ IsNotPlaced path
  EndsSo end = HasEnded end

  -- What a run with turrets comes to, for at most so many records.
  abbrev pub RunsWith : Result Reason NoMemory → Type 0
  RunsWith (Ok end) = EndsSo end
  RunsWith (Err none) = HasNotBegun
