-- What `edit` does over the text of its file.
-- How the records of edits are written is in run_edits.
-- What `top` promises is said in it; no other crate takes it.
use Rattle.std.specs.Prelude.{◌≡◌, ℕ, ◌+◌, ◌≤◌, ◌<◌, List, [], ◌++◌, length, codes, decimal, Result, Ok, Err, Some, None}
use Rattle.nc_moves.specs.declared.alarm.Alarm.{Alarm}
use Rattle.disk_model.specs.Device.{DiskState, Reads, Rose}
use Rattle.edit_texts.specs.declared.edit_list.PathEdit.{PathEdit}
use Rattle.edit_texts.specs.Edits.{edits_of}
use Rattle.gate_file.specs.declared.fault.DiskFault.{DiskFault}
use Rattle.nc_outside.specs.declared.reason.Reason.{Reason}
use Rattle.nc_number.specs.declared.fault.Failing.{Failing}
use Rattle.nc_number.specs.declared.fault.Failing.TheVariants.{Fault, NoMemory}
use Rattle.run_journal.specs.Stands.{Stands}
use Rattle.nc_restart.specs.declared.fault.RestartFault.{RestartFault}
use Rattle.nc_restart.specs.History.{IsHistory}
use Rattle.nc_restart.specs.Pair.{texts_of, IsPairOf, machine_behind}
use Rattle.nc_restart.specs.Recovered.{Recovers}
use Rattle.lathe_calls.specs.Answers.{Answer, tells, nothing}
use Rattle.lathe_calls.specs.Reported.{report_of}
use Rattle.lathe_calls.specs.Statuses as exit
use Rattle.lathe_looks.specs.Edited.{bad_edit_text}
use Rattle.lathe_looks.specs.Shown.{unfound_answer}
use Rattle.lathe_top.specs.Kept.{Editing, IsWriting, RestsWhole, history_with}
use Rattle.lathe_top.specs.Lathe.{LatheState, AreAtRest}

-- the line of output for so many edits that were made
abbrev pub edited_text : ℕ → List ℕ
edited_text count = codes "edited " ++ (decimal count ++ codes "\n")

-- what is told if edits are not made: the disk failed; nothing if memory runs out
abbrev pub told_of_failure : Failing DiskFault → Answer
told_of_failure (Fault fault) = tells exit.disk_fault (codes "disk fault\n")
told_of_failure NoMemory = nothing

-- what is told of so many edits that were written, or were to be
abbrev pub told_of_writing : ℕ → Result (Unit {0}) (Failing DiskFault) → Answer
told_of_writing count (Ok done) = tells exit.done (edited_text count)
told_of_writing count (Err error) = told_of_failure error

-- The run of the editing was found on the disk, and nothing was written.
pub record IsOnlyFound (e : Editing) (old new : DiskState) : Type 0 where
  -- the header's texts are accepted, as this pair
  pub accepted : IsPairOf (texts_of e.header) e.pair
  -- the records that were found are a history of the pair
  pub found_is : IsHistory e.pair e.found
  -- the recovery found this header and these records, and wrote nothing
  pub recovers : Recovers old new (Ok (record { header = e.header; entries = e.found }))

-- no alarm stands after the records that were found
abbrev pub IsWithoutAlarm : Editing → Type 0
IsWithoutAlarm e = (machine_behind e.pair e.found).alarm ≡ None

-- The edits were written, and the disk stands for the records that were found and those of the
-- edits after them; no call of it failed.
pub record AreMade (e : Editing) (old new : DiskState) : Type 0 where
  -- the edits are a writing of this editing
  pub writing : IsWriting e old new
  -- a crash now leaves the records that were found and those of all edits
  pub whole : (bytes : List ℕ) → Reads old bytes → (c : List ℕ) → new.image c → Stands e.header (history_with e) c
  -- no call of the disk failed
  pub calm : new.faults ≡ old.faults

-- What is answered to the edits of a run that was found. If an alarm has stopped the run, its
-- report is told; else, if the settings don't allow so many records, that it is full; nothing if
-- memory runs out. In these cases nothing was written. Else the edits are made, all at once, or the
-- disk failed.
pub data IsEditOf (e : Editing) (old new : DiskState) : Answer → Type 0 where
  -- an alarm has stopped the run
  alarmed : {alarm : Alarm} → (machine_behind e.pair e.found).alarm ≡ Some alarm → IsOnlyFound e old new
      → IsEditOf e old new (tells exit.alarm (report_of e.pair e.found (Reason.Alarm alarm)))
  -- there is no room for so many records
  full : IsWithoutAlarm e → e.pair.settings.records < length e.found + length e.edits → IsOnlyFound e old new
      → IsEditOf e old new (tells exit.full (codes "full\n"))
  -- memory ran out before anything was written
  unready : IsOnlyFound e old new → IsEditOf e old new nothing
  -- no edit was asked for
  none_asked : IsWithoutAlarm e → e.edits ≡ [] → IsOnlyFound e old new → IsEditOf e old new (tells exit.done (edited_text 0))
  -- all edits are made
  made : IsWithoutAlarm e → 1 ≤ length e.edits → AreMade e old new → IsEditOf e old new (tells exit.done (edited_text (length e.edits)))
  -- the disk failed while the edits were written
  failed : IsWithoutAlarm e → 1 ≤ length e.edits → IsWriting e old new → Rose old.faults new.faults
      → IsEditOf e old new (tells exit.disk_fault (codes "disk fault\n"))

-- What is answered to edits of the run on a disk: why none is found, or what is answered to them in
-- the run that is found.
pub data IsEditedRun (edits : List PathEdit) (old new : DiskState) : Answer → Type 0 where
  -- no run is found on the disk
  not_found : (fault : RestartFault) → Recovers old new (Err fault) → IsEditedRun edits old new (unfound_answer fault)
  -- what is answered to these edits in the run that is found
  in_run : {answer : Answer} (e : Editing) → e.edits ≡ edits → IsEditOf e old new answer → IsEditedRun edits old new answer

-- What `edit` answers over the text of its file. Either status 1 and the first line that is not
-- allowed, or nothing if memory runs out, and then the disk was not called. Or what is answered to
-- the edits of the text. No turret is called.
pub data IsEdited (old new : LatheState) (text : List ℕ) : Answer → Type 0 where
  -- a line of the text is no edit
  bad_edits : {line : ℕ} → edits_of text ≡ Err line → RestsWhole old new → IsEdited old new text (tells exit.refused (bad_edit_text line))
  -- memory ran out while the text was read
  unread_edits : RestsWhole old new → IsEdited old new text nothing
  -- what is answered to the edits of the text
  edited : {edits : List PathEdit} {answer : Answer} → edits_of text ≡ Ok edits → IsEditedRun edits old.disk new.disk answer
      → AreAtRest old new → IsEdited old new text answer
