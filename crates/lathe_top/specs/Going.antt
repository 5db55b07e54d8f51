-- How a run goes on from what its journal has.
-- For this crate alone: the contracts of src/going.rt and src/resuming.rt.
use Rattle.std.specs.Prelude.{◌≡◌, ◌⊎◌, ℕ, ◌-◌, ◌*◌, ◌≤◌, true, Result, Ok, Err, List, length}
use Rattle.disk_model.specs.Device.{DiskState, Reads, Rose}
use Rattle.disk_model.specs.Moments.{LeavesOnly, Unwritten, Uses}
use Rattle.nc_number.specs.declared.fault.NoMemory.{NoMemory}
use Rattle.nc_outside.specs.declared.reason.Reason.{Reason}
use Rattle.nc_verify.specs.declared.verified.Verified.{Verified}
use Rattle.run_records.specs.Entries.{Entry}
use Rattle.run_records.specs.declared.header.Header.{Header}
use Rattle.nc_outside.specs.Written.{SinkState}
use Rattle.run_table.specs.Kept.{TableView}
use Rattle.run_table.specs.Recording.{IsJournaled, StandsForPrefix}
use Rattle.lathe_calls.specs.Answers.{Answer, tells, nothing, Ends}
use Rattle.lathe_looks.specs.Standing.{is_over}
use Rattle.lathe_top.specs.Kept.{end_of, KeepsVersion}
use Rattle.lathe_top.specs.Lathe.{LatheState}
use Rattle.lathe_top.specs.Ran.{TextOf}
use Rattle.lathe_calls.specs.Statuses.{reason_status}
use Rattle.lathe_top.specs.Session.{Session, GoesOn, machine_found}
use Rattle.lathe_top.specs.Turrets.{IsEnding, IsUnprepared}

-- the run that goes on: the header of its journal, its pair, and the records so far
pub record Standing : Type 0 where
  -- the header of the journal
  pub header : Header
  -- the accepted pair of its texts
  pub pair : Verified
  -- the records so far
  pub found : List Entry

-- the run that goes on, from its three parts
abbrev pub standing_run : Header → Verified → List Entry → Standing
standing_run header pair found = record { header = header; pair = pair; found = found }

-- the session of a run that goes on, by the records at its end
abbrev pub session_to : Standing → List Entry → Session
session_to run history = record { header = run.header; pair = run.pair; found = run.found; history = history }

-- What going on does to the disk: as a session does, but for the opening.
pub record KeepsGoing (s : Session) (least : ℕ) (old new : DiskState) : Type 0 where
  -- a crash now leaves a prefix of the history, of `least` records at least
  pub left : (bytes : List ℕ) → Reads old bytes → (c : List ℕ) → new.image c → StandsForPrefix s.header least s.history c
  -- at any moment a crash leaves a prefix that has all that was found
  pub moments : (bytes : List ℕ) → Reads old bytes
      → LeavesOnly (StandsForPrefix s.header (length s.found) s.history) old new
  -- to a run that was over nothing is written
  pub over : is_over (machine_found s) ≡ true → Unwritten old new
  -- a call of the disk failed, or the journal keeps its version
  pub version : (bytes : List ℕ) → Reads old bytes → Rose old.faults new.faults ⊎ KeepsVersion s least old new
  -- four calls at most for each record made, and how far they reach
  pub uses : Uses (4 * (length s.history - length s.found)) (end_of s) old new
  -- the count of faults doesn't sink
  pub later : old.faults ≤ new.faults

-- What is told of a run that went on, by at most so many records: its text, by the reason for which
-- it ended; nothing, if there was no memory for a first record or a thread was refused.
pub data IsReport (limit : ℕ) (text_of : TextOf) (run : Standing) (old new : LatheState) : Answer → Type 0 where
  -- the run ended for this reason
  report : (history : List Entry) {reason : Reason} (least : ℕ) → GoesOn run.pair run.found history
      → IsEnding limit reason (session_to run history) least old new
      → KeepsGoing (session_to run history) least old.disk new.disk
      → IsReport limit text_of run old new (tells (reason_status reason) (text_of run.pair history reason))
  -- the run did not begin
  stayed : (history : List Entry) (least : ℕ) → GoesOn run.pair run.found history
      → IsUnprepared (session_to run history) least old new
      → KeepsGoing (session_to run history) least old.disk new.disk
      → IsReport limit text_of run old new nothing

-- what is told of the run of a table that went on, whatever the header of its journal is
abbrev pub IsReportOn : {D : Type 0} → (D → DiskState) → ℕ → TextOf → TableView D → LatheState → LatheState → SinkState → SinkState → ℕ
    → Type 0
IsReportOn state limit text_of table old new before after status = (header : Header) → IsJournaled state header table.recording
    → Ends (IsReport limit text_of (standing_run header table.verified table.recording.history) old new)
    before after status

-- what is told of a history whose run ended for this reason; nothing if the run did not begin, as
-- memory ran out or a thread was refused
abbrev pub told_of : TextOf → Verified → List Entry → Result Reason NoMemory → Answer
told_of text_of pair entries (Ok reason) = tells (reason_status reason) (text_of pair entries reason)
told_of text_of pair entries (Err none) = nothing
