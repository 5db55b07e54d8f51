-- What the turrets of a call write, against the report: the stream of a path, and the lines that
-- the report has for it.
-- The public law of src/stream_laws.rt is said in these words; no other crate takes them.
use Rattle.std.specs.Prelude.{◌≡◌, ◌⊎◌, ℕ, true, false, List, [], ◌∷◌, ◌++◌, length, Option, Some}
use Rattle.std.specs.Option.{ForSome}
use Rattle.nc_number.specs.Both.{of_path}
use Rattle.nc_number.specs.declared.path.Path.{Path}
use Rattle.disk_model.specs.Device.{DiskState}
use Rattle.nc_outside.specs.declared.got.Got.{Got}
use Rattle.nc_outside.specs.Received.{Received, TurretState}
use Rattle.nc_outside.specs.declared.got.Got.TheVariants.{Placed, Moved, Rested}
use Rattle.nc_outside.specs.declared.lined_move.LinedMove.{LinedMove}
use Rattle.turret_run.specs.Served.{place_told}
use Rattle.turret_lines.specs.Stream.{HasStream, stream_of, told_state}
use Rattle.nc_verify.specs.declared.verified.Verified.{Verified}
use Rattle.run_records.specs.Entries.{Entry}
use Rattle.nc_outside.specs.declared.reason.Reason.{Reason}
use Rattle.two_path.specs.Made.{moves_of}
use Rattle.move_list.specs.Report.{lines_text}
use Rattle.nc_restart.specs.Pair.{tapes_in, opening_of}
use Rattle.two_path.specs.Machine.{position_of}
use Rattle.lathe_looks.specs.Standing.{is_over}
use Rattle.lathe_calls.specs.Statuses as exit
use Rattle.lathe_top.specs.Done.{Call}
use Rattle.lathe_top.specs.Kept.{IsOpened, KeepsSession, Opening}
use Rattle.lathe_top.specs.Kinds.{Kind, rests, looks, branches, edits, begins, goes_on}
use Rattle.lathe_top.specs.Lathe.{AreAtRest}
use Rattle.lathe_calls.specs.Statuses.{reason_status}
use Rattle.lathe_top.specs.Session.{IsSession, Session, machine_found}

-- commands of this kind make records of blocks
abbrev pub MakesRecords : Kind → Type 0
MakesRecords rests = ⊥
MakesRecords looks = ⊥
MakesRecords branches = ⊥
MakesRecords edits = ⊥
MakesRecords (begins limit) = Unit {0}
MakesRecords (goes_on limit) = Unit {0}

-- The statuses of a command that made its records and was not cut off by a fault: both paths ended
-- (0), an alarm (3), as many records as were allowed (10), and a journal that is full (14).
abbrev pub IsUncut : ℕ → Type 0
IsUncut status = (status ≡ exit.done) ⊎ ((status ≡ exit.alarm) ⊎ ((status ≡ exit.stopped) ⊎ (status ≡ exit.full)))

-- the lines that the report of a history has for a path
abbrev pub report_lines : Verified → Path → List Entry → List ℕ
report_lines pair path history = lines_text (moves_of (tapes_in pair) (opening_of pair) path history)

-- the moves among what a turret got, in order
abbrev pub moves_got : List Got → List LinedMove
moves_got [] = []
moves_got (Placed at ∷ got) = moves_got got
moves_got (Moved what ∷ got) = what ∷ moves_got got
moves_got (Rested at ∷ got) = moves_got got

-- A stream is the lines of what the path's turret got: its place and a rest there, and then moves and
-- rests, of which the moves are exactly those that the report lists for the path's records of this
-- session: its lines at the end are those for the records that were found, and then those of these
-- moves. (Rests have no line, but for those before waits.)
pub record IsStream (s : Session) (path : Path) (bytes : List ℕ) : Type 0 where
  -- what the turret got behind its place
  pub got : List Got
  -- the stream is the lines of the place and of these
  pub stream : bytes ≡ stream_of (place_told (position_of path (machine_found s)) ++ got)
  -- the report's lines at the end are those for the records that were found, and those of the moves
  pub report : report_lines s.pair path s.history ≡ report_lines s.pair path s.found ++ lines_text (moves_got got)

-- A turret got what is written as the stream of the path, and did not fail. If it was a new one
-- that writes lines, its sink has the stream, and nothing else.
pub record GetsStream (s : Session) (path : Path) (old new : TurretState) : Type 0 where
  -- what the turret got
  pub got : List Got
  -- what it got is written as the stream of the path
  pub is : IsStream s path (stream_of got)
  -- a turret that makes known what it got has got just this besides
  pub told : (was : Received) → old.received ≡ Some was
      → (now : Received) × (new.received ≡ Some now) × (now.got ≡ was.got ++ got)
  -- no call of the turret failed
  pub calm : new.faults ≡ old.faults
  -- the sink of a new turret that writes lines has the stream
  pub written : (written : Option (List ℕ)) (has : List Got) (calls faults : ℕ) → old ≡ told_state [] 0 0
      → new ≡ told_state has calls faults → HasStream written has faults
      → ForSome written (λ bytes. IsStream s path bytes)

-- What a call did that made its records. They are of one session, which the disk then holds whole.
-- Each turret got the stream of its path; none was called if the run was over when it was found.
pub record HasStreams {D E : Type 0} (state : D → DiskState) (call : Call E) (status : ℕ) : Type 0 where
  -- the session that the call made
  pub session : Session
  -- it is a session of an accepted pair
  pub is : IsSession session
  -- how the session opened
  pub opening : Opening
  -- what the opening found on the disk
  pub opened : IsOpened opening session call.before.lathe.disk
  -- what the session did to the disk, which holds all its records
  pub keeps : KeepsSession state opening session (length session.history) call.before.lathe.disk call.after.lathe.disk
  -- why the session ended
  pub reason : Reason
  -- the reason has this status
  pub answered : reason_status reason ≡ status
  -- if the run was over when it was found, no turret was called
  pub over : is_over (machine_found session) ≡ true → AreAtRest call.before.lathe call.after.lathe
  -- else each turret got the stream of its path
  pub streams : is_over (machine_found session) ≡ false → (path : Path)
      → GetsStream session path (of_path call.before.lathe.turrets path) (of_path call.after.lathe.turrets path)
