-- A held table: one that keeps the table at which it was opened, so that the moves answered since
-- are known. What a step is for the worker of its path stands here too.
use Rattle.std.specs.Prelude.{◌≡◌, ℕ, ◌==◌, ◌&&◌, not, is_none, Bool, true, false, List, [], ◌∷◌, ◌++◌, length, drop, Option, Some, None, if◌then◌else◌}
use Rattle.disk_model.specs.Device.{DiskState}
use Rattle.gate_file.specs.Gate.{Gate}
use Rattle.nc_number.specs.declared.path.Path.{Path}
use Rattle.nc_outside.specs.declared.halt.Halt.{Halt}
use Rattle.nc_outside.specs.declared.halt.Halt.TheVariants as halt
use Rattle.nc_outside.specs.declared.halt.Next.{Next}
use Rattle.nc_outside.specs.declared.halt.Next.TheVariants as next
use Rattle.nc_moves.specs.declared.motion.Moves.{Moves}
use Rattle.nc_verify.specs.declared.verified.Verified.{Verified}
use Rattle.run_records.specs.Entries.{Entry}
use Rattle.seat_table.specs.Turning.{Draining}
use Rattle.two_path.specs.declared.turn.Turn.{Turn}
use Rattle.two_path.specs.declared.turn.Turn.TheVariants as turn
use Rattle.two_path.specs.Machine.{MachineView}
use Rattle.two_path.specs.Turns.{Tapes, turn_of}
use Rattle.two_path.specs.Histories.{behind_entry, fold}
use Rattle.two_path.specs.Again.{turn_of_entry}
use Rattle.run_table.specs.declared.answer.TableStep.{TableStep}
use Rattle.run_table.specs.declared.answer.TableStep.TheVariants as step
use Rattle.nc_number.specs.declared.both.Both.{Both}
use Rattle.nc_number.specs.Both.{of_path}
use Rattle.run_table.specs.Draining.{drains_by, rest_told, told_in_turn, wait_of}
use Rattle.run_table.specs.declared.resting.Resting.{Resting}
use Rattle.nc_outside.specs.declared.got.Got.{Got}
use Rattle.run_table.specs.Kept.{TableView, tapes_in, opening_of}
use Rattle.run_table.specs.Made.{if_of, joined, told_from, told_made}
use Rattle.run_table.specs.Since.{Since}
use Rattle.run_table.specs.Stepping.{bound_by, is_waiting, step_of, IsStep}

-- what callers see of a table that is held, and whether the moves of its last record were answered
pub record HeldView (D : Type 0) : Type 0 where
  -- the accepted pair
  pub verified : Verified
  -- the machine after all records
  pub machine : MachineView
  -- all records, also those that pend
  pub history : List Entry
  -- how many of the records are on the disk
  pub flushed : ℕ
  -- the journal's file
  pub file : Gate D
  -- why the table has stopped
  pub halt : Option Halt
  -- how many records it may still make
  pub budget : ℕ
  -- whether the turret of each path rests for the wait that the path comes to
  pub resting : Both Resting
  -- whether the moves of its last record were answered
  pub shown : Bool

-- what callers see of this table once it is held, if the moves of its last record were answered or
-- not
abbrev pub held_of : {D : Type 0} → TableView D → Bool → HeldView D
held_of t shown = record {
  verified = t.verified;
  machine = t.machine;
  history = t.recording.history;
  flushed = t.recording.flushed;
  file = t.recording.log.file;
  halt = t.halt;
  budget = t.budget;
  resting = t.resting;
  shown = shown;
}

-- why no turn comes though nothing stopped the table: its journal is full, or its budget is spent
abbrev pub bound_at : {D : Type 0} → HeldView D → Option Halt
bound_at h = bound_by (length h.history) h.verified.settings.records h.budget

-- whether the path waits, nothing has stopped the table, and neither a full journal nor a spent
-- budget does
abbrev pub waits_at : {D : Type 0} → HeldView D → Path → Bool
waits_at h path = (is_none h.halt && is_none (bound_at h)) && is_waiting path h.machine

-- whether the path is to be drained: its next turn brings it to a wait for which its turret does not
-- rest, nothing has stopped the table, and neither a full journal nor a spent budget does
abbrev pub drains_at : {D : Type 0} → HeldView D → Path → Draining
drains_at h path = if is_none h.halt && is_none (bound_at h)
    then drains_by (of_path h.resting path) (wait_of (turn_of (tapes_in h.verified) path h.machine).turn)
    else Draining.none

-- the table is what has come of the one that was opened; if none was, no table is
abbrev pub IsOf : {D : Type 0} → (D → DiskState) → Option (TableView D) → TableView D → Type 0
IsOf state None t = ⊥
IsOf state (Some start) t = Since state start t

-- what each record of the path told its turret; nothing for the last record of the history, which
-- was not answered
abbrev pub lost_from : Tapes → MachineView → Path → List Entry → List (List Got)
lost_from tapes m path [] = []
lost_from tapes m path (e ∷ []) = if_of path e []
lost_from tapes m path (e ∷ f ∷ entries) =
    if_of path e (told_in_turn (turn_of_entry tapes e m)) ++ lost_from tapes (behind_entry tapes e m) path (f ∷ entries)

-- what each record of the path told its turret, of all records (true), or of all but the last one of
-- the history, which was not answered (false)
abbrev pub answered_from : Tapes → MachineView → Path → Bool → List Entry → List (List Got)
answered_from tapes m path true entries = told_from tapes m path entries
answered_from tapes m path false entries = lost_from tapes m path entries

-- the path's records since the opening, of each what it told the turret of the path
abbrev pub records_since : {D : Type 0} → Option (TableView D) → HeldView D → Path → List (List Got)
records_since None h path = []
records_since (Some start) h path =
    answered_from (tapes_in start.verified) (fold (tapes_in start.verified) (opening_of start.verified) start.recording.history)
    path h.shown (drop (length start.recording.history) h.history)

-- What was told the turret of the path since the opening: record by record, and then the rest before
-- a wait that is not recorded yet, if it was told one.
abbrev pub told_since : {D : Type 0} → Option (TableView D) → HeldView D → Path → List Got
told_since opened h path = joined (records_since opened h path) ++ rest_told (of_path h.resting path)

-- What the records since the opening told is what those tell that the disk has: a record that pends,
-- or that was lost, told nothing. Without an opening this never holds.
abbrev pub ShowsFlushed : {D : Type 0} → Option (TableView D) → HeldView D → TableView D → Type 0
ShowsFlushed None h t = ⊥
ShowsFlushed (Some start) h t = (path : Path) → joined (records_since (Some start) h path)
    ≡ told_made t.verified path (length start.recording.history) t.recording.flushed t.recording.history

-- A table that may be held under the opening: it is of the opening, and what it showed since is on
-- the disk.
pub record MayHold {D : Type 0} (state : D → DiskState) (opened : Option (TableView D)) (t : TableView D) : Type 0 where
  -- the table has come of the opening
  pub of : IsOf state opened t
  -- the moves answered since are those of records on the disk
  pub shows : ShowsFlushed opened (held_of t true) t

-- What is true of a held table: it has come of its opening, what it showed since is on the disk,
-- and the moves of its last record are unanswered only if the disk has failed.
pub record IsHeld {D : Type 0} (state : D → DiskState) (opened : Option (TableView D)) (t : TableView D) (shown : Bool) : Type 0 where
  -- the table has come of the opening
  pub of : IsOf state opened t
  -- the last moves are unanswered only after a fault of the disk
  pub lost : shown ≡ false → t.halt ≡ Some halt.Disk
  -- the moves answered since are those of records on the disk
  pub shows : ShowsFlushed opened (held_of t shown) t

-- what a block with these moves is for the worker: its moves, or `Silent` if it has none
abbrev pub next_of_moves : Moves → Next
next_of_moves moves = if length moves.list == 0 then next.Silent else next.Moves moves

-- a turn as it is handed on to the worker of its path; None if the path waits (no step answers
-- `Edited`, which stands here since it is a turn)
abbrev pub next_of_turn : Turn → Option Next
next_of_turn (turn.Read variable stamp) = Some next.Silent
next_of_turn (turn.Did moves) = Some (next_of_moves moves)
next_of_turn (turn.Arrived code) = Some next.Silent
next_of_turn (turn.Met code) = Some next.Silent
next_of_turn (turn.Ended moves) = Some (next_of_moves moves)
next_of_turn (turn.Waiting code) = None
next_of_turn turn.Finished = Some next.Finished
next_of_turn (turn.Alarm alarm) = Some (next.Halted (halt.Alarm alarm))
next_of_turn (turn.Halted alarm) = Some (next.Halted (halt.Alarm alarm))
next_of_turn turn.Edited = Some next.Silent

-- a step as it is handed on to the worker of its path; None if the path waits
abbrev pub next_of : TableStep → Option Next
next_of (step.Turned turn) = next_of_turn turn
next_of (step.Drain code) = Some (next.Drain code)
next_of step.Undrained = Some next.Silent
next_of step.DiskFault = Some (next.Halted halt.Disk)
next_of (step.Halted why) = Some (next.Halted why)

-- whether the step lost a record: the disk failed in it, and the numbers of records before and
-- after it differ
abbrev pub is_lost : TableStep → ℕ → ℕ → Bool
is_lost step.DiskFault before after = not (before == after)
is_lost other before after = false

-- one step of the path by the table that is held, and its answer as it is handed on
pub record HasStepped {D : Type 0} (state : D → DiskState) (path : Path) (old new : HeldView D) (result : Option Next) : Type 0 where
  -- the table before the step
  pub before : TableView D
  -- the table after the step
  pub after : TableView D
  -- what the step answered
  pub step : TableStep
  -- the held table before the step is that table
  pub old_is : old ≡ held_of before old.shown
  -- the held table after the step is that table
  pub new_is : new ≡ held_of after new.shown
  -- the step is one of the table
  pub is : IsStep state (step_of before path) before after step
  -- the answer is that of the step, as it is handed on
  pub next : result ≡ next_of step

-- why the table stopped, but for a turret's fault, which a table that is taken out doesn't keep
abbrev pub without_turret : Option Halt → Option Halt
without_turret (Some (halt.Turret path)) = None
without_turret why = why

-- A table that is taken out of a held one: the same pair, machine, records, file and budget, and
-- the same reason to stop unless it is a turret's fault.
pub record IsTaken {D : Type 0} (held : HeldView D) (t : TableView D) : Type 0 where
  -- the pair is the same
  pub verified : t.verified ≡ held.verified
  -- the machine is the same
  pub machine : t.machine ≡ held.machine
  -- the records are the same
  pub history : t.recording.history ≡ held.history
  -- as many of them are on the disk
  pub flushed : t.recording.flushed ≡ held.flushed
  -- the journal has the same file
  pub file : t.recording.log.file ≡ held.file
  -- it may make as many records more
  pub budget : t.budget ≡ held.budget
  -- the same turrets rest for a wait
  pub resting : t.resting ≡ held.resting
  -- the reason is the same, unless it is a turret's fault
  pub halt : t.halt ≡ without_turret held.halt

-- A table that was held may be held again under its opening, which told the same since.
pub record MayHoldAgain {D : Type 0} (state : D → DiskState) (opened : Option (TableView D)) (held : HeldView D) (t : TableView D) : Type 0 where
  -- the table may be held under the opening
  pub may : MayHold state opened t
  -- what was told since the opening is the same
  pub told : (path : Path) → told_since opened (held_of t true) path ≡ told_since opened held path
