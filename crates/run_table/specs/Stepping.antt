-- What a step of a table comes to. A row for each case: a kept reason, a full journal, a spent
-- budget, a drain, or the path's turn. Callers meet `IsStep`, `step_of`, `waits_in` and `GoesOn` in
-- the clauses of `Table` (src/table.rt).
use Rattle.std.specs.Prelude.{◌≡◌, ℕ, ◌+◌, ◌==◌, ◌||◌, ◌&&◌, not, nat_lt, is_some, is_none, Bool, true, false, List, [], ◌++◌, length, Option, Some, None, IsTrue, if◌then◌else◌}
use Rattle.disk_model.specs.Device.{DiskState, Rose}
use Rattle.nc_number.specs.declared.path.Path.{Path}
use Rattle.nc_number.specs.Both.{of_path}
use Rattle.nc_number.specs.declared.limits.TheConstants.{MOST_PENDING}
use Rattle.nc_outside.specs.declared.halt.Halt.{Halt}
use Rattle.nc_outside.specs.declared.halt.Halt.TheVariants as halt
use Rattle.run_records.specs.Entries.{Entry}
use Rattle.two_path.specs.declared.turn.Turn.{Turn}
use Rattle.two_path.specs.declared.turn.Turn.TheVariants as turn
use Rattle.two_path.specs.Machine.{MachineView}
use Rattle.two_path.specs.Turns.{Tapes, TurnResult, turn_of, entry_of}
use Rattle.two_path.specs.Histories.{list_of}
use Rattle.run_table.specs.declared.answer.TableStep.{TableStep}
use Rattle.run_table.specs.declared.answer.TableStep.TheVariants.{Turned, Drain, Undrained, DiskFault, Halted}
use Rattle.run_table.specs.Recording.{RecordingView, Records}
use Rattle.seat_table.specs.Turning.{Draining}
use Rattle.run_table.specs.Draining.{drains_by, wait_of}
use Rattle.run_table.specs.Kept.{TableView, tapes_in}

-- whether a turn shows something to the outside: moves, that the path comes to a wait, that it goes
-- on from one, that it ends, or that it raises an alarm. A block without moves shows nothing, nor
-- does a turn that only reads, or that finds the path waiting, ended or stopped, nor an edit.
abbrev pub is_shown : Turn → Bool
is_shown (turn.Read variable stamp) = false
is_shown (turn.Did moves) = not (length moves.list == 0)
is_shown (turn.Arrived code) = true
is_shown (turn.Met code) = true
is_shown (turn.Ended moves) = true
is_shown (turn.Waiting code) = false
is_shown turn.Finished = false
is_shown (turn.Alarm alarm) = true
is_shown (turn.Halted alarm) = false
is_shown turn.Edited = false

-- why no turn comes though nothing stopped the table: it has as many records as it may have, or no
-- budget is left
abbrev pub bound_by : ℕ → ℕ → ℕ → Option Halt
bound_by count most budget = if count == most then Some halt.Full else if budget == 0 then Some halt.Budget else None

-- why a turn of this table doesn't come: a full journal, a spent budget, or none
abbrev pub bound_of : {D : Type 0} → TableView D → Option Halt
bound_of t = bound_by (length t.recording.history) t.verified.settings.records t.budget

-- whether the path waits: no alarm came, it has not ended, and it stands at a wait
abbrev pub is_waiting : Path → MachineView → Bool
is_waiting path m = (is_none m.alarm && not (of_path m.paths path).finished) && is_some (of_path m.paths path).waiting

-- whether the path waits, nothing has stopped the table, and neither a full journal nor a spent
-- budget does
abbrev pub waits_in : {D : Type 0} → TableView D → Path → Bool
waits_in t path = (is_none t.halt && is_none (bound_of t)) && is_waiting path t.machine

-- what a step comes to if the disk does not fail
pub record StepResult : Type 0 where
  -- what the step answers
  pub answer : TableStep
  -- the machine after the step
  pub machine : MachineView
  -- the record that the step makes, or none
  pub made : List Entry
  -- whether all records are to be on the disk before the answer
  pub due : Bool

-- whether all records are to be on the disk before the answer: if the turn shows something, or 64
-- pend
abbrev pub is_due : {D : Type 0} → RecordingView D → List Entry → Turn → Bool
is_due r made turn = is_shown turn || r.flushed + MOST_PENDING == length (r.history ++ made)

-- the step of a turn, with its record, if it made one
abbrev pub turn_step : {D : Type 0} → TableView D → TurnResult → List Entry → StepResult
turn_step t result made = record {
  answer = Turned result.turn;
  machine = result.machine;
  made = made;
  due = is_due t.recording made result.turn;
}

-- whether the path is to be drained: its next turn brings it to a wait for which its turret does not
-- rest
abbrev pub drains : {D : Type 0} → TableView D → Path → Draining
drains t path = drains_by (of_path t.resting path) (wait_of (turn_of (tapes_in t.verified) path t.machine).turn)

-- a step without a turn that answers so: the table keeps a reason, or the path has to be drained
abbrev pub idle_step : {D : Type 0} → TableView D → TableStep → StepResult
idle_step t answer = record { answer = answer; machine = t.machine; made = []; due = false }

-- a step without a turn, for a full journal or a spent budget; what pends is written before it
abbrev pub bound_step : {D : Type 0} → TableView D → Halt → StepResult
bound_step t why = record {
  answer = Halted why;
  machine = t.machine;
  made = [];
  due = nat_lt t.recording.flushed (length t.recording.history);
}

-- the step of the path's turn
abbrev pub turn_by : {D : Type 0} → TableView D → Path → StepResult
turn_by t path =
    turn_step t (turn_of (tapes_in t.verified) path t.machine) (list_of (entry_of (tapes_in t.verified) path t.machine))

-- The step if no drain is due: a reason that is kept goes before a full journal, that before a
-- spent budget, and each of them before a turn.
abbrev pub step_without_drain : {D : Type 0} → TableView D → Path → Option Halt → Option Halt → StepResult
step_without_drain t path (Some why) bound = idle_step t (Halted why)
step_without_drain t path None (Some why) = bound_step t why
step_without_drain t path None None = turn_by t path

-- the step by the table's reason, its bound, and whether the path has to be drained: only a path
-- whose turn would come is drained
abbrev pub step_by : {D : Type 0} → TableView D → Path → Option Halt → Option Halt → Draining → StepResult
step_by t path None None (Draining.due code) = idle_step t (Drain code)
step_by t path None None (Draining.asked code) = idle_step t Undrained
step_by t path why bound drain = step_without_drain t path why bound

-- what a step of the path comes to: a drain, its turn, or nothing
abbrev pub step_of : {D : Type 0} → TableView D → Path → StepResult
step_of t path = step_by t path t.halt (bound_of t) (drains t path)

-- The result of a step: its answer, with all records flushed before it if that is due; or a fault
-- of the disk, if it failed in that flush.
pub data Answers {D : Type 0} (state : D → DiskState) (due : Bool) (answer : TableStep) (old new : RecordingView D) (result : TableStep) : Type 0 where
  -- nothing has to be flushed, and the answer is the step's
  at_once : due ≡ false → result ≡ answer → new.log.file ≡ old.log.file → new.flushed ≡ old.flushed
      → Answers state due answer old new result
  -- all is flushed, and the answer is the step's
  flushed : due ≡ true → result ≡ answer → IsTrue new.log.file.live → new.flushed ≡ length new.history
      → Answers state due answer old new result
  -- the disk failed in the flush, and the answer is that fault
  failed : due ≡ true → result ≡ DiskFault → new.log.file.live ≡ false → new.flushed ≡ old.flushed
      → Rose (state old.log.file.disk).faults (state new.log.file.disk).faults → Answers state due answer old new result

-- the reason to stop that an answer gives to a table that kept none: an alarm or a fault of the
-- disk
abbrev pub reason_of : TableStep → Option Halt
reason_of (Turned (turn.Alarm alarm)) = Some (halt.Alarm alarm)
reason_of (Turned _) = None
reason_of (Drain code) = None
reason_of Undrained = None
reason_of DiskFault = Some halt.Disk
reason_of (Halted why) = None

-- the reason that a table keeps after this answer: the one from before, or that of the answer
abbrev pub reason_behind : Option Halt → TableStep → Option Halt
reason_behind (Some why) answer = Some why
reason_behind None answer = reason_of answer

-- What a step does to the table. If the disk failed in it, the record that it made pends.
pub record IsStep {D : Type 0} (state : D → DiskState) (step : StepResult) (old new : TableView D) (result : TableStep) : Type 0 where
  -- the result is the step's answer, or a fault of the disk
  pub answer : Answers state step.due step.answer old.recording new.recording result
  -- the recording has the step's record, and may be flushed
  pub records : Records state step.made old.recording new.recording
  -- the machine is the one after the step
  pub machine : new.machine ≡ step.machine
  -- the step's record, if it made one, is taken off the budget
  pub budget : new.budget + length step.made ≡ old.budget
  -- the table keeps its reason, or gets that of the result
  pub halt : new.halt ≡ reason_behind old.halt result
  -- the pair stays
  pub verified : new.verified ≡ old.verified

-- The path's turn does not find that it waits or has ended. Without an alarm the turn is then that
-- of a block.
pub record GoesOn (tapes : Tapes) (path : Path) (m : MachineView) : Type 0 where
  -- the turn does not say that the path waits
  pub waits : (code : ℕ) → (turn_of tapes path m).turn ≡ turn.Waiting code → ⊥
  -- the turn does not say that the path has ended
  pub ended : (turn_of tapes path m).turn ≡ turn.Finished → ⊥
