-- What the turrets get from a session.
-- What a turret may get of moves is in turret_run (Served).
-- What `top` promises is said in it; no other crate takes it.
use Rattle.std.specs.Prelude.{◌≡◌, ◌⊎◌, ℕ, ◌+◌, ◌≤◌, true, false, List, ◌++◌, length}
use Rattle.nc_outside.specs.Received.{TurretState}
use Rattle.nc_number.specs.declared.both.Both.{Both}
use Rattle.nc_number.specs.Both.{of_path}
use Rattle.nc_number.specs.declared.path.Path.{Path}
use Rattle.nc_number.specs.Path.{other_of}
use Rattle.nc_outside.specs.declared.got.Got.{Got}
use Rattle.nc_outside.specs.declared.reason.Reason.{Reason}
use Rattle.two_path.specs.Machine.{position_of}
use Rattle.run_table.specs.declared.resting.Resting.{Resting}
use Rattle.run_table.specs.Draining.{rest_told, StandsAsTold}
use Rattle.run_table.specs.Made.{told_made}
use Rattle.turret_run.specs.Served.{place_told, turret_told, FailsPlace, GetsAll, GetsPart, GetsSome, FailsAmong, Misses}
use Rattle.turret_run.specs.Runs.{GetsBeside, StandsBeside, none_missed}
use Rattle.lathe_top.specs.Lathe.{LatheState, AreAtRest}
use Rattle.lathe_looks.specs.Standing.{is_over}
use Rattle.lathe_top.specs.Session.{Session, EndsBy, IsLeast, machine_found, machine_of}

-- What is due to the turret of a path by a session up to this record: its place and a rest there; then,
-- record by record, the moves of its path's records after those that were found, and before each of
-- their waits a rest; a rest more if it was told to rest for a wait that is not recorded; and a rest
-- at the end.
abbrev pub due_to : Session → ℕ → Both Resting → Path → List Got
due_to s upto resting path = turret_told (position_of path (machine_found s))
    (told_made s.pair path (length s.found) upto s.history ++ rest_told (of_path resting path))

-- each path whose turret was told to rest for a wait that is not recorded stands before that wait at
-- the end of the session
abbrev pub AreAsTold : Session → Both Resting → Type 0
AreAsTold s resting = (path : Path) → StandsAsTold s.pair (machine_of s) path (of_path resting path)

-- How many moves each turret missed of a session, by its records up to this one: of what is due to
-- it the moves that it did not get, and none unless it failed.
abbrev pub AreMissed : Session → ℕ → Both Resting → Both TurretState → Both TurretState → Both ℕ → Type 0
AreMissed s upto resting old new missed =
    (path : Path) → Misses (due_to s upto resting path) (of_path missed path) (of_path old path) (of_path new path)

-- The turret of a path failed after both had come to their places, and no call of the disk failed.
-- What is due to each turret, and what each missed, is counted by all records of the session.
pub record AreFailed (path : Path) (s : Session) (old new : Both TurretState) (missed : Both ℕ) : Type 0 where
  -- which turrets were told to rest for a wait that is not recorded
  pub resting : Both Resting
  -- their paths stand before these waits
  pub stands : AreAsTold s resting
  -- the turret of this path got its place and a prefix of what is due then, and failed
  pub failed : FailsAmong (due_to s (length s.history) resting path) (of_path old path) (of_path new path)
  -- the other turret got all that is due to it, or failed too
  pub other : GetsBeside path (due_to s (length s.history) resting (other_of path)) (of_path old (other_of path))
      (of_path new (other_of path))
  -- so much of it each turret missed
  pub misses : AreMissed s (length s.history) resting old new missed

-- The turret of a path failed at its place, or in coming to stand still there. No record was made,
-- and no turret got or missed a move. Beside path 1 that of path 2 was not called; beside path 2 that
-- of path 1 stood still at its place.
pub record AreUnplaced (path : Path) (s : Session) (old new : Both TurretState) (missed : Both ℕ) : Type 0 where
  -- no record was made
  pub none : s.history ≡ s.found
  -- the turret of this path failed at its place
  pub failed : FailsPlace (position_of path (machine_found s)) (of_path old path) (of_path new path)
  -- what the other turret got
  pub other : StandsBeside path (position_of (other_of path) (machine_found s)) (of_path old (other_of path))
      (of_path new (other_of path))
  -- no move was missed
  pub misses : missed ≡ none_missed

-- What the turrets got of a session that might make records, by records that are on the disk, and
-- what they missed: each got all that is due to it. If the disk failed, it is a prefix of that. If a
-- turret failed, it got a prefix and the other one all, unless that failed too; or no turret got a
-- move, since it failed at its place.
abbrev pub AreServed : Reason → Session → ℕ → Both TurretState → Both TurretState → Both ℕ → Type 0
AreServed Reason.DiskFault s least old new missed =
    (resting : Both Resting) × ((path : Path) → GetsSome (due_to s least resting path) (of_path old path) (of_path new path))
    × AreMissed s least resting old new missed
AreServed (Reason.TurretFault path) s least old new missed =
    AreFailed path s old new missed ⊎ AreUnplaced path s old new missed
AreServed other s least old new missed =
    (resting : Both Resting) × AreAsTold s resting
    × ((path : Path) → GetsAll (due_to s least resting path) (of_path old path) (of_path new path)) × AreMissed s least resting old new missed

-- what the turrets got of a session, and how much they missed: nothing, if the run was over at
-- its opening
pub record GetTheirs (reason : Reason) (s : Session) (least : ℕ) (old new : LatheState) : Type 0 where
  -- if the run was over, no turret was called
  pub over : is_over (machine_found s) ≡ true → AreAtRest old new
  -- else the turrets got and missed what the reason says
  pub goes_on : is_over (machine_found s) ≡ false → AreServed reason s least old.turrets new.turrets new.missed

-- How a session of at most so many records ended for this reason: what its cause is, how many
-- records the disk holds at least, and what the turrets got.
pub record IsEnding (limit : ℕ) (reason : Reason) (s : Session) (least : ℕ) (old new : LatheState) : Type 0 where
  -- no more records were made than were allowed
  pub few : length s.history ≤ length s.found + limit
  -- the cause that the reason names
  pub cause : EndsBy limit s old new reason
  -- how many records the disk holds at least
  pub enough : IsLeast reason s least
  -- what the turrets got and missed
  pub turrets : GetTheirs reason s least old new

-- there was no memory for a first record or a thread was refused, and each turret got its place at
-- most
pub record IsUnprepared (s : Session) (least : ℕ) (old new : LatheState) : Type 0 where
  -- the run was not over when it was found
  pub unended : is_over (machine_found s) ≡ false
  -- no record was made
  pub none : s.history ≡ s.found
  -- the disk holds all records
  pub all : least ≡ length s.history
  -- each turret got its place at most
  pub places : (path : Path) → GetsPart (place_told (position_of path (machine_found s))) (of_path old.turrets path)
      (of_path new.turrets path)
  -- no move was missed
  pub missed : new.missed ≡ none_missed

-- how a session ended, with or without a report
abbrev pub IsSessionEnd : ℕ → Session → ℕ → LatheState → LatheState → Type 0
IsSessionEnd limit s least old new = ((reason : Reason) × IsEnding limit reason s least old new) ⊎ IsUnprepared s least old new
