-- What callers see of a table, and what is true of it. The history and the journal in it are in
-- Recording.
use Rattle.std.specs.Prelude.{◌≡◌, ◌≢◌, ℕ, ◌+◌, ◌≤◌, ◌<◌, false, length, map, Option, Some, None, IsTrue}
use Rattle.nc_number.specs.Both.{of_path}
use Rattle.nc_number.specs.declared.path.Path.{Path}
use Rattle.run_table.specs.declared.resting.Resting.{Resting}
use Rattle.run_table.specs.Draining.{StandsAsTold}
use Rattle.disk_model.specs.Device.{DiskState}
use Rattle.nc_outside.specs.declared.halt.Halt.{Halt}
use Rattle.nc_outside.specs.declared.halt.Halt.TheVariants.{Alarm, Disk, Turret, Full, Budget}
use Rattle.cell_settings.specs.View.{view}
use Rattle.tape_flow.specs.Forms.{program_form}
use Rattle.nc_verify.specs.declared.verified.Verified.{Verified}
use Rattle.nc_verify.specs.Verdict.{AreAccepted}
use Rattle.run_records.specs.declared.header.Header.{Header}
use Rattle.two_path.specs.Machine.{MachineView}
use Rattle.two_path.specs.Start.{machine_at_start}
use Rattle.two_path.specs.Turns.{Tapes, tapes_of}
use Rattle.two_path.specs.Joined.{AreAtTheirWaits}
use Rattle.two_path.specs.Histories.{IsKept}
use Rattle.nc_number.specs.declared.both.Both.{Both}
use Rattle.nc_number.specs.declared.limits.TheConstants.{MOST_PENDING}
use Rattle.run_table.specs.Recording.{RecordingView, IsJournaled}

-- what callers see of a table
pub record TableView (D : Type 0) : Type 0 where
  -- the accepted pair
  pub verified : Verified
  -- the machine after all records
  pub machine : MachineView
  -- for how many turns the machine has room
  pub turns : ℕ
  -- the history and the journal
  pub recording : RecordingView D
  -- why the table has stopped, if it keeps a reason
  pub halt : Option Halt
  -- how many records it may still make
  pub budget : ℕ
  -- whether the turret of each path rests for the wait that the path comes to
  pub resting : Both Resting

-- the blocks of both tapes of the pair
abbrev pub tapes_in : Verified → Tapes
tapes_in verified = tapes_of verified.left verified.right

-- the machine before its first turn
abbrev pub opening_of : Verified → MachineView
opening_of verified = machine_at_start verified.left verified.right verified.settings

-- the header's three texts are accepted, as this pair
abbrev pub IsVerdictOf : Header → Verified → Type 0
IsVerdictOf header verified =
    AreAccepted (record { left = header.left; right = header.right; settings = header.settings }) (view verified.settings)
    (map program_form verified.left.programs) (map program_form verified.right.programs)

-- a table that has not stopped: no path has raised an alarm, the journal may be written, and the
-- batch is not full
pub record MayGoOn {D : Type 0} (machine : MachineView) (r : RecordingView D) : Type 0 where
  -- there is no alarm
  pub calm : machine.alarm ≡ None
  -- the journal may be written
  pub live : IsTrue r.log.file.live
  -- fewer than 64 records pend
  pub few : length r.history < r.flushed + MOST_PENDING

-- What a table's kept reason means: an alarm of the machine, a fault of the disk, or a turret that
-- was said to fail. A full journal and a spent budget are no reasons that a table keeps.
abbrev pub HasReason : {D : Type 0} → MachineView → RecordingView D → Option Halt → Type 0
HasReason machine r None = MayGoOn machine r
HasReason machine r (Some (Alarm alarm)) = (machine.alarm ≡ Some alarm) × IsTrue r.log.file.live
HasReason machine r (Some Disk) = r.log.file.live ≡ false
HasReason machine r (Some (Turret path)) = MayGoOn machine r
HasReason machine r (Some Full) = ⊥
HasReason machine r (Some Budget) = ⊥

-- What is true of every table. Its machine is the fold of the legal history, with lawful block
-- reads. There is room for what it may still record. The journal is that of some header whose texts
-- are the pair's.
pub record IsTable {D : Type 0} (state : D → DiskState) (t : TableView D) : Type 0 where
  -- the machine is the fold of the legal history, but for what unfinished blocks have read
  pub kept : IsKept (tapes_in t.verified) (opening_of t.verified) t.recording.history t.machine
  -- each waiting path stands on a wait
  pub waits : AreAtTheirWaits t.verified.left.order t.verified.right.order t.machine
  -- there are no more records than the settings allow
  pub few : length t.recording.history ≤ t.verified.settings.records
  -- the machine has room for the turns that the budget allows
  pub turns : t.budget ≤ t.turns
  -- the history has room for the records that the budget allows
  pub room : 1 ≤ t.budget → length t.recording.history + t.budget ≤ t.recording.room
  -- the reason that is kept holds, or the table may go on
  pub reason : HasReason t.machine t.recording t.halt
  -- unless the disk has failed, a path whose turret was told to rest for a wait stands before that
  pub rests : t.halt ≢ Some Disk → (path : Path) → StandsAsTold t.verified t.machine path (of_path t.resting path)
  -- the journal is that of some header whose texts are the pair's
  pub journaled : (header : Header) × IsVerdictOf header t.verified × IsJournaled state header t.recording
